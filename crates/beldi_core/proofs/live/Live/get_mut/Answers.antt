use Rattle.std.proofs.Common.{Some, ap, refl, rules, sym, ◌∙◌}
use Rattle.beldi_core.proofs.Names.{Run, RunMap, get_rows, map_of, nat_cmp-IsAntisymmetric, nat_cmp_total, one_set, option_copied_mut, with_run}
use Rattle.beldi_core.proofs.Lives.{got_first, got_other, least_put, put_first, put_other}
use Rattle.beldi_core.proofs.RunMaps.{absent_run}
use Rattle.beldi_core.proofs.Names.map
use Rattle.beldi_core.proofs.live.Live.get_mut.Goals as goal

pub returns-then-begins_with : goal.returns-then-begins_with
returns-then-begins_with c =
    let f = c.self.inside.first in
    let m = map_of c.self.inside.rest in
    let is = sym c.begins_with.ensures ∙ c.if-begins_with.true in (
      (refl {a = c.first_mut.result.ghost_name}, λ w. put_first f.number f.run m c.args.number w is ∙ ap (λ (a : RunMap). map.insert a c.args.number w) c.self.view_is),
      record { writes_back = tt; value = sym c.first_mut.ensures.value ∙ sym (got_first f.number f.run m c.args.number is) ∙ ap (λ (a : RunMap). map.get a c.args.number) c.self.view_is },
    )

pub unreachable-requires : goal.unreachable-requires
unreachable-requires c =
    let f = c.self.inside.first in
    let m = map_of c.self.inside.rest in
    let is = sym c.begins_with.ensures ∙ c.if-begins_with.false in
    absent_run (map.get c.args.self.now c.args.number) c.requires
    (ap (λ (a : RunMap). map.get a c.args.number) (sym c.self.view_is) ∙ got_other f.number f.run m c.args.number is ∙ get_rows nat_cmp_total nat_cmp-IsAntisymmetric c.self.inside.rest.entries c.args.number ∙ sym c.get_mut.ensures.value
    ∙ ap option_copied_mut c.in-None.is)

pub invariant_of-self-lent-2 : goal.invariant_of-self-lent-2
invariant_of-self-lent-2 c = λ w.
    let f = c.self.inside.first in
    let m = map_of c.self.inside.rest in
    let here = get_rows nat_cmp_total nat_cmp-IsAntisymmetric c.self.inside.rest.entries c.args.number ∙ sym c.get_mut.ensures.value ∙ ap option_copied_mut c.in-Some.is in
    let put = one_set nat_cmp_total nat_cmp-IsAntisymmetric c.self.inside.rest.entries (c.get_mut.follows.lender w).entries c.args.number w ((c.get_mut.follows.holds w).3 (search rules)).0 in
    rw put (least_put f.number f.run m c.args.number c.in-Some.run'.now w here c.self.invariant)

pub returns : goal.returns
returns c =
    let f = c.self.inside.first in
    let m = map_of c.self.inside.rest in
    let is = sym c.begins_with.ensures ∙ c.if-begins_with.false in
    let here = get_rows nat_cmp_total nat_cmp-IsAntisymmetric c.self.inside.rest.entries c.args.number ∙ sym c.get_mut.ensures.value ∙ ap option_copied_mut c.in-Some.is in
    let put = λ (w : Run). one_set nat_cmp_total nat_cmp-IsAntisymmetric c.self.inside.rest.entries (c.get_mut.follows.lender w).entries c.args.number w ((c.get_mut.follows.holds w).3 (search rules)).0 in (
      (refl {a = c.get_mut-in-Some.result.ghost_name}, λ w. ap (with_run f.number f.run) (put w) ∙ put_other f.number f.run m c.args.number (Some w) is ∙ ap (λ (a : RunMap). map.insert a c.args.number w) c.self.view_is),
      record { writes_back = tt; value = ap Some c.get_mut-in-Some.ensures.value ∙ sym here ∙ sym (got_other f.number f.run m c.args.number is) ∙ ap (λ (a : RunMap). map.get a c.args.number) c.self.view_is },
    )
