use Rattle.beldi_core.proofs.Names.{ap, arith, get_made, id_exact, id_total, number_of, option_copied_mut, rules, set_made, sym, ◌+◌, ◌∙◌}
use Rattle.beldi_core.proofs.CountMaps.{raised, not_raised}
use Rattle.beldi_core.proofs.Names.map
use Rattle.beldi_core.proofs.counts.Counts.raise.Goals as goal

pub returns-in_default : goal.returns-in_default
returns-in_default c = not_raised c.args.self.now _ c.args.id.now (map.get c.args.self.now c.args.id.now) (ap (λ m. map.get m c.args.id.now) (sym c.self.view_is) ∙ get_made id_total c.self.inside.entries.entries c.args.id.now ∙ sym c.get_mut.ensures.value ∙ ap option_copied_mut c.in_default.is) (search rules)

pub overflow_add-count : goal.overflow_add-count
overflow_add-count c = let same = ap number_of (ap (λ m. map.get m c.args.id.now) (sym c.self.view_is) ∙ get_made id_total c.self.inside.entries.entries c.args.id.now ∙ sym c.get_mut.ensures.value ∙ ap option_copied_mut c.in-Some.is) in omega (arith, same, c.requires)

pub returns : goal.returns
returns c =
    let h = c.get_mut.follows.holds (c.in-Some.count.now + 1) in
    let tree = c.get_mut.follows.lender (c.in-Some.count.now + 1) in
    raised c.args.self.now (map.from_entries tree.entries) c.args.id.now (map.get c.args.self.now c.args.id.now) c.in-Some.count.now
    (ap (λ m. map.get m c.args.id.now) (sym c.self.view_is) ∙ get_made id_total c.self.inside.entries.entries c.args.id.now ∙ sym c.get_mut.ensures.value ∙ ap option_copied_mut c.in-Some.is)
    (set_made id_total id_exact c.self.inside.entries.entries tree.entries c.args.id.now (c.in-Some.count.now + 1) (h.3 (search rules)).0 ∙ ap (λ m. map.insert m c.args.id.now (c.in-Some.count.now + 1)) c.self.view_is)
