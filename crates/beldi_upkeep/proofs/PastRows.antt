-- Calls that may be passed, where one row is set by an act.
use Rattle.std.proofs.Common.{Bool, None, Option, ap, arith, false, inl, inr, refl, subst, sym, true, ℕ, ◌&&◌, ◌<◌, ◌||◌, ◌∙◌, ◌≡◌}
use Rattle.std.specs.FinMap as map
use Rattle.std.specs.{Ordering.is_eq, Prelude.is_none}
use Rattle.beldi_value.specs.declared.{id.IntentId.IntentId, place.Place.Place}
use Rattle.beldi_row.specs.{Act.act, Key.RowKey, Key.key_cmp, Table.Rows, Table.after_act, declared.act.Act.Act, declared.key.Kind.Kind, declared.row.Row.Row}
use Rattle.beldi_invokelog.specs.InvokeLog.{invoke_key}
use Rattle.beldi_step.specs.Run.{place_of}
use Rattle.beldi_invariant.proofs.Names.{key_same, set_others}
use Rattle.beldi_upkeep.specs.Passed.{MayPass, PastCalls, ShowsPast, may_pass}
use Rattle.beldi_upkeep.proofs.{PastActs.Does, PastActs.calls_back, PastActs.may_by, PastActs.opens_call, PastActs.or_parts, PastActs.shows_by, RowSets.set_here}

and_parts : (a b : Bool) → (a && b) ≡ true → (a ≡ true) × (b ≡ true)
and_parts true b h = (refl, h)
and_parts false b h = cc

none_is : (o : Option Row) → is_none o ≡ true → o ≡ None
none_is o h = grind arith

not_both : (a : Act) → opens_call a ≡ true → calls_back a ≡ true → ⊥
not_both a h k = grind arith

module _ (m : Rows) (now : ℕ) (k : RowKey) (a : Act) where
  abbrev after : Rows
  after = after_act a now k m

  here : map.get after k ≡ (act a now (map.get m k)).0
  here = set_here m k (act a now (map.get m k)).0

  others : (l : RowKey) → is_eq (key_cmp l k) ≡ false → map.get after l ≡ map.get m l
  others l off = set_others m k (act a now (map.get m k)).0 l off

  -- a row that may be passed stays so, but where a call is opened that was not there
  pub may_row : (q : RowKey) → (q ≡ k → opens_call a ≡ true → map.get m k ≡ None → ⊥) → may_pass (map.get m q) ≡ true → may_pass (map.get after q) ≡ true
  may_row q never may = by_test (is_eq (key_cmp q k)) refl
    where
      by_act : (o : Option Row) → map.get m k ≡ o → q ≡ k → (may_pass (act a now o).0 || (is_none o && opens_call a)) ≡ true → may_pass (act a now o).0 ≡ true
      by_act o is one h = elim (or_parts (may_pass (act a now o).0) (is_none o && opens_call a) h) [
        | inl stays ↦ stays
        | inr opens ↦ let parts = and_parts (is_none o) (opens_call a) opens in absurd (never one parts.1 (is ∙ none_is o parts.0))
      ]

      by_test : (b : Bool) → is_eq (key_cmp q k) ≡ b → may_pass (map.get after q) ≡ true
      by_test true e =
          let one = key_same q k e in
          subst (λ l. may_pass (map.get after l) ≡ true) (sym one) (ap may_pass here ∙ by_act (map.get m k) refl one (may_by a now (map.get m k) (subst (λ l. may_pass (map.get m l) ≡ true) one may)))
      by_test false e = ap may_pass (others q e) ∙ may

  -- a call is opened here, which was not there
  pub record OpensNow (i : IntentId) (n : ℕ) : Type 0 where
    pub func : ℕ
    pub key : invoke_key func (place_of i n) ≡ k
    pub opens : opens_call a ≡ true
    pub absent : map.get m k ≡ None

  pub may_on : (i : IntentId) (n : ℕ) → (OpensNow i n → ⊥) → MayPass m i n → MayPass after i n
  may_on i n never may f = may_row (invoke_key f (place_of i n)) (λ one opens absent. never (record { func = f; key = one; opens = opens; absent = absent })) (may f)

  -- where what the act shows may be passed, and nothing shows that one is past the call that is opened, all is kept
  pub past_on : ((i : IntentId) (n : ℕ) → Does a k.kind i n → MayPass m i n) → ((i : IntentId) (n : ℕ) → OpensNow i n → (l : RowKey) → ShowsPast l.kind (map.get m l) i n → ⊥) → PastCalls m → PastCalls after
  past_on does fresh h = record { each = λ l i n shows. by_test l i n shows (is_eq (key_cmp l k)) refl }
    where
      place_in : Place → Kind → Place
      place_in p (Kind.Invoke q) = q
      place_in p z = p

      no_self : (i : IntentId) (n : ℕ) → Does a k.kind i n → OpensNow i n → ⊥
      no_self i n d o = by_does (subst (λ z. Does a z i n) (ap (λ (q : RowKey). q.kind) (sym o.key)) d)
        where
          by_does : Does a (Kind.Invoke (place_of i n)) i n → ⊥
          by_does (inl z) = let less : n < n = z.0.later in omega (arith, less)
          by_does (inr z) = not_both a o.opens z.1

      by_test : (l : RowKey) (i : IntentId) (n : ℕ) → ShowsPast l.kind (map.get after l) i n → (b : Bool) → is_eq (key_cmp l k) ≡ b → MayPass after i n
      by_test l i n shows true e =
          let one = key_same l k e in
          elim (shows_by a now k.kind (map.get m k) i n (subst (λ o. ShowsPast k.kind o i n) here (subst (λ z. ShowsPast z.kind (map.get after z) i n) one shows))) [
            | inl was ↦ may_on i n (λ o. fresh i n o k was) (h.each k i n was)
            | inr d ↦ may_on i n (no_self i n d) (does i n d)
          ]
      by_test l i n shows false e = let was = subst (λ o. ShowsPast l.kind o i n) (others l e) shows in may_on i n (λ o. fresh i n o l was) (h.each l i n was)
