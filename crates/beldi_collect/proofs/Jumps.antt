-- Between a row and where the cursor is set past it no intent has its key.
use Rattle.std.specs.Prelude.{nat_lt}
use Rattle.std.{specs.Ordering.nat_cmp, specs.Ordering.ordering_then, specs.Ordering.MatchOrdering, specs.Cmp.ranks, specs.Cmp.Lexicographic.slice_cmp, specs.declared.cmp.Ordering.Ordering, specs.declared.cmp.Ordering.TheVariants.Less, specs.declared.cmp.Ordering.TheVariants.Equal, specs.declared.cmp.Ordering.TheVariants.Greater, proofs.lemmas.Cmp.tied_itself}
use Rattle.std.proofs.Common.{◌≡◌, ℕ, ◌+◌, ◌-◌, ◌^◌, ◌<◌, Bool, true, false, if◌then◌else◌, List, [], ◌∷◌, refl, ap, sym, ◌∙◌, subst, arith}
use Rattle.beldi_value.specs.declared.id.IntentId.{IntentId}
use Rattle.beldi_row.specs.{Key.RowKey, Key.key_cmp, Key.kind_cmp, KeyOrder.key_total, declared.key.Kind.Kind}
use Rattle.beldi_collect.specs.{Collect.next_home, Collect.passing, Cursor.NoIntentIsJumped}

abbrev first : IntentId
first = record { ticket = 0; hops = [] }

-- no key is between a key and itself
none_within : (k q : RowKey) → key_cmp k q ≡ Less → key_cmp q k ≡ Less → ⊥
none_within k q a b = let clash = sym (tied_itself key_total k) ∙ key_total.trans k q k a b in cc

-- no intent comes before that of ticket 0
none_below_zero : (t : ℕ) → nat_cmp t 0 ≡ Less → ⊥
none_below_zero t h = let less : t < 0 = subst (λ r. MatchOrdering r (t < 0) (t ≡ 0) (0 < t)) h (ranks t 0) in omega (arith, less)

none_before : (id : IntentId) → kind_cmp (Kind.Intent id) (Kind.Intent first) ≡ Less → ⊥
none_before id h = by_ticket (nat_cmp id.ticket 0) refl h
  where
    by_hops : (hops : List ℕ) → ordering_then (slice_cmp nat_cmp hops []) Equal ≡ Less → ⊥
    by_hops [] h = cc
    by_hops (x ∷ xs) h = cc

    by_ticket : (o : Ordering) → nat_cmp id.ticket 0 ≡ o → ordering_then o (ordering_then (slice_cmp nat_cmp id.hops []) Equal) ≡ Less → ⊥
    by_ticket Less is h = none_below_zero id.ticket is
    by_ticket Equal is h = by_hops id.hops h
    by_ticket Greater is h = cc

-- .. so between a row that is no intent's and the home that follows there is none
module _ (k q : RowKey) (id : IntentId) (is : q.kind ≡ Kind.Intent id) (later : kind_cmp k.kind (Kind.Intent id) ≡ Greater) where
  within : (o p : Ordering) → nat_cmp k.home q.home ≡ o → nat_cmp q.home (k.home + 1) ≡ p
      → ordering_then o (kind_cmp k.kind (Kind.Intent id)) ≡ Less → ordering_then p (kind_cmp (Kind.Intent id) (Kind.Intent first)) ≡ Less → ⊥
  within Less Less a b g h =
      let more : k.home < q.home = subst (λ r. MatchOrdering r (k.home < q.home) (k.home ≡ q.home) (q.home < k.home)) a (ranks k.home q.home) in
      let fewer : q.home < k.home + 1 = subst (λ r. MatchOrdering r (q.home < k.home + 1) (q.home ≡ k.home + 1) (k.home + 1 < q.home)) b (ranks q.home (k.home + 1)) in
      omega (arith, more, fewer)
  within Less Equal a b g h = none_before id h
  within Less Greater a b g h = cc
  within Equal p a b g h = let clash = sym later ∙ g in cc
  within Greater p a b g h = cc

  to_next : key_cmp k q ≡ Less → key_cmp q (next_home k) ≡ Less → ⊥
  to_next g h = by_last (nat_lt k.home (2 ^ 16 - 1)) h
    where
      by_last : (b : Bool) → key_cmp q (if b then record { home = k.home + 1; kind = Kind.Intent first } else k) ≡ Less → ⊥
      by_last true h = within (nat_cmp k.home q.home) (nat_cmp q.home (k.home + 1)) refl refl
          (subst (λ z. ordering_then (nat_cmp k.home q.home) (kind_cmp k.kind z) ≡ Less) is g) (subst (λ z. ordering_then (nat_cmp q.home (k.home + 1)) (kind_cmp z (Kind.Intent first)) ≡ Less) is h)
      by_last false h = none_within k q g h

jumped : (kind : Kind) (k q : RowKey) (id : IntentId) → k.kind ≡ kind → q.kind ≡ Kind.Intent id → key_cmp k q ≡ Less → key_cmp q (passing k kind) ≡ Less → ⊥
jumped (Kind.Intent j) k q id at is g h = none_within k q g h
jumped kind k q id at is g h = to_next k q id is (ap (λ z. kind_cmp z (Kind.Intent id)) at) g h

pub none_jumped : NoIntentIsJumped
none_jumped k q id g h is = jumped k.kind k q id refl is g h
