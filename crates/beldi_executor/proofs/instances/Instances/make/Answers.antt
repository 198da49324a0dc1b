use Rattle.beldi_executor.proofs.Names.{None, ap, get_made, id_exact, id_total, option_copied_mut, rules, set_made, sym, ◌∙◌, ◌≡◌}
use Rattle.beldi_executor.proofs.{ExecutorKept.acted_at, Made.one_short}
use Rattle.beldi_executor.proofs.Names.map
use Rattle.beldi_executor.proofs.instances.Instances.make.Goals as goal

pub returns : goal.returns
returns c =
    let r = c.make.new.self in
    let h = c.get_mut.follows.holds r in
    let tree = c.get_mut.follows.lender r in
    let entries = c.self.inside.entries.entries in
    acted_at c.args.items.now c.make.new.items c.args.self.now (map.from_entries tree.entries) c.args.id.now c.in-Some.instance.now r c.args.effect.now c.make.result
    (ap (λ m. map.get m c.args.id.now) (sym c.self.view_is) ∙ get_made id_total entries c.args.id.now ∙ sym c.get_mut.ensures.value ∙ ap option_copied_mut c.in-Some.is)
    (set_made id_total id_exact entries tree.entries c.args.id.now r (h.3 (search rules)).0 ∙ ap (λ m. map.insert m c.args.id.now r) c.self.view_is)
    c.make.ensures

pub returns-in_default : goal.returns-in_default
returns-in_default c = λ q here.
    let none : map.get c.args.self.now c.args.id.now ≡ None = ap (λ m. map.get m c.args.id.now) (sym c.self.view_is) ∙ get_made id_total c.self.inside.entries.entries c.args.id.now ∙ sym c.get_mut.ensures.value ∙ ap option_copied_mut c.in_default.is in
    let both = sym here ∙ none in cc

pub invariant_of-self-2 : goal.invariant_of-self-2
invariant_of-self-2 c =
    let r = c.make.new.self in
    let tree = c.get_mut.follows.lender r in
    let entries = c.self.inside.entries.entries in
    one_short (map.from_entries entries) (map.from_entries tree.entries) c.args.id.now c.in-Some.instance.now r c.self.invariant
    (get_made id_total entries c.args.id.now ∙ sym c.get_mut.ensures.value ∙ ap option_copied_mut c.in-Some.is)
    (set_made id_total id_exact entries tree.entries c.args.id.now r ((c.get_mut.follows.holds r).3 (search rules)).0)
