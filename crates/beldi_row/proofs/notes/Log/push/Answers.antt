use Rattle.std.proofs.Common.{◌≡◌, ◌∙◌, subst, sym, ◌+◌, ◌<◌, length, vec_len, rules}
use Rattle.beldi_row.proofs.Room.{below_eight, still_few}
use Rattle.beldi_row.proofs.notes.Log.push.Goals as goal

pub push_reserved-requires : goal.push_reserved-requires
push_reserved-requires c =
    let all : vec_len c.self.inside.entries ≡ length c.self.inside.entries.items = search rules in
    subst (λ n. vec_len c.self.inside.entries < n) (sym c.self.invariant.1) (subst (λ n. n < 8) (sym all) (below_eight c.self.inside.entries.items c.args.self.now c.self.view_is c.self.invariant.0 c.requires))

pub invariant_of-self : goal.invariant_of-self
invariant_of-self c =
    let more : length c.push_reserved.new.self.items ≡ length c.self.inside.entries.items + 1 = search rules in
    (still_few _ _ (below_eight c.self.inside.entries.items c.args.self.now c.self.view_is c.self.invariant.0 c.requires) more, c.push_reserved.ensures.capacity ∙ c.self.invariant.1)
