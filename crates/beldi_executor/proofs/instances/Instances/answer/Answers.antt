use Rattle.beldi_executor.proofs.Names.{answered, ap, get_made, id_exact, id_total, option_copied_mut, rules, set_made, sym, ◌∙◌}
use Rattle.beldi_executor.proofs.Made.{one_ok, one_err, none_at, one_short}
use Rattle.beldi_executor.proofs.Names.map
use Rattle.beldi_executor.proofs.instances.Instances.answer.Goals as goal

pub returns-in_default-clause-ok : goal.returns-in_default-clause-ok
returns-in_default-clause-ok c =
    let none = ap (λ m. map.get m c.args.id.now) (sym c.self.view_is) ∙ get_made id_total c.self.inside.entries.entries c.args.id.now ∙ sym c.get_mut.ensures.value ∙ ap option_copied_mut c.in_default.is in
    let same = c.get_mut.follows.holds-at-none in
    ap (λ t. map.from_entries t.entries) same ∙ c.self.view_is ∙ none_at c.args.self.now c.args.id.now (λ q. answered q c.args.answer) none

pub invariant_of-self-2 : goal.invariant_of-self-2
invariant_of-self-2 c =
    let r = c.answer.new.self in
    let tree = c.get_mut.follows.lender r in
    let entries = c.self.inside.entries.entries in
    one_short (map.from_entries entries) (map.from_entries tree.entries) c.args.id.now c.in-Some.instance.now r c.self.invariant
    (get_made id_total entries c.args.id.now ∙ sym c.get_mut.ensures.value ∙ ap option_copied_mut c.in-Some.is)
    (set_made id_total id_exact entries tree.entries c.args.id.now r ((c.get_mut.follows.holds r).3 (search rules)).0)

pub returns-clause-ok : goal.returns-clause-ok
returns-clause-ok c =
    let r = c.answer.new.self in
    let h = c.get_mut.follows.holds r in
    let tree = c.get_mut.follows.lender r in
    let entries = c.self.inside.entries.entries in
    one_ok c.args.self.now (map.from_entries tree.entries) c.args.id.now c.in-Some.instance.now r (λ q. answered q c.args.answer) c.answer.result
    (ap (λ m. map.get m c.args.id.now) (sym c.self.view_is) ∙ get_made id_total entries c.args.id.now ∙ sym c.get_mut.ensures.value ∙ ap option_copied_mut c.in-Some.is)
    (set_made id_total id_exact entries tree.entries c.args.id.now r (h.3 (search rules)).0 ∙ ap (λ m. map.insert m c.args.id.now r) c.self.view_is)
    c.answer.ensures.ok

pub returns-clause-err : goal.returns-clause-err
returns-clause-err c =
    let r = c.answer.new.self in
    let h = c.get_mut.follows.holds r in
    let tree = c.get_mut.follows.lender r in
    let entries = c.self.inside.entries.entries in
    one_err c.args.self.now (map.from_entries tree.entries) c.args.id.now c.in-Some.instance.now r c.answer.result
    (ap (λ m. map.get m c.args.id.now) (sym c.self.view_is) ∙ get_made id_total entries c.args.id.now ∙ sym c.get_mut.ensures.value ∙ ap option_copied_mut c.in-Some.is)
    (set_made id_total id_exact entries tree.entries c.args.id.now r (h.3 (search rules)).0 ∙ ap (λ m. map.insert m c.args.id.now r) c.self.view_is)
    c.answer.ensures.err
