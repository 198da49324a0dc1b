-- The newest ticket is the greatest that a key of a row names.
use borrow.Author.Tests.{eqb-true, le-leb, leb-true}
use Rattle.std.proofs.lemmas.Bool.{lt-ltb}
use Rattle.std.specs.Prelude.{ℕ, zero, suc, ◌≡◌, ◌≤◌, ◌<◌, ◌==◌, ◌&&◌, ◌||◌, max, nat_le, nat_lt, Bool, true, false, cond, List, [], ◌∷◌, length, is_some, Option, Some, None, refl}
use Rattle.std.specs.FinMap.{get-entries}
use Rattle.std.specs.FinMap.Entries.{find}
use Rattle.std.specs.{Cmp.tied_itself, Ordering.is_eq}
use Rattle.std.specs.FinMap as map
use Rattle.std.proofs.Common.{ap, arith, inl, inr, subst, sym, ◌∙◌}
use Rattle.std.proofs.lemmas.Bool.{and_parts}
use Rattle.beldi_value.specs.{Id.child_of, Id.has_no_hops, Id.root_of, declared.id.IntentId.IntentId, declared.outcome.Outcome.Outcome, declared.place.Place.Place, declared.place.TxId.TxId}
use Rattle.beldi_tree.specs.declared.deployment.Deployment.{Deployment}
use Rattle.beldi_plain.specs.{Item.Item, Plain.Instance}
use Rattle.beldi_plain_laws.proofs.CallStack.{longer}
use Rattle.beldi_row.specs.{Key.RowKey, Key.key_cmp, Key.key_ticket, Key.ticket_of, KeyOrder.key_total, declared.key.Kind.Kind, declared.row.Body.Body, declared.row.Row.Row, Table.Rows}
use Rattle.beldi_row.proofs.Gets.{key_same}
use Rattle.beldi_intent.specs.Intent.{root_key}
use Rattle.beldi_step.specs.HostStep.{Core, greatest, newest_of}
use Rattle.beldi_histories.specs.{Contents.shadow_chain, Histories.Got, Histories.got_by, Histories.expected_call, Histories.expected_lockset, Histories.expected_read, Histories.expected_value, Expected.called_by, Matches.LocksetMatches, Matches.RowMatches, Matches.has_ended, Matches.lockset_ahead, RowMatching.CallMatches, RowMatching.CalleeBodyMatches, RowMatching.CalleeMatches, RowMatching.IntentMatches, RowMatching.LogMatches, RowMatching.RootMatches}
use Rattle.beldi_links.proofs.Last.{last_there}
use Rattle.beldi_histories.proofs.{Callers.called_below, Callers.root_or_called, Cases.by_option, ReadLists.got_since, ReadLists.member_tx}
use Rattle.beldi_invariant.specs.Invariant.{Invariant}

-- ---- the greatest ticket of the keys of a map
there_still : (b : Bool) {A : Type 0} (x : A) (o : Option A) → is_some o ≡ true → is_some (cond b (Some x) o) ≡ true
there_still true x o h = refl
there_still false x o h = h

pub at_most : (k : RowKey) (es : List (RowKey × Row)) → is_some (find key_cmp k es) ≡ true → key_ticket k ≤ greatest es
at_most k [] h = cc
at_most k (e ∷ es) h = (elim (is_eq (key_cmp k e.0)) as (λ b. is_eq (key_cmp k e.0) ≡ b → is_some (cond b (Some e.1) (find key_cmp k es)) ≡ true → key_ticket k ≤ max (key_ticket e.0) (greatest es)) [
  | true ↦ λ t here. let same : key_ticket k ≡ key_ticket e.0 = ap key_ticket (key_same k e.0 t) in omega (arith, same)
  | false ↦ λ t here. let rest = at_most k es here in omega (arith, rest)
]) refl h

pub bounded : (n : ℕ) (es : List (RowKey × Row)) → ((k : RowKey) → is_some (find key_cmp k es) ≡ true → key_ticket k ≤ n) → greatest es ≤ n
bounded n [] h = omega arith
bounded n (e ∷ es) h =
    let first : key_ticket e.0 ≤ n = h e.0 (ap (λ b. is_some (cond b (Some e.1) (find key_cmp e.0 es))) (ap is_eq (tied_itself key_total e.0))) in
    let rest : greatest es ≤ n = bounded n es (λ k there. h k (there_still (is_eq (key_cmp k e.0)) e.1 (find key_cmp k es) there)) in
    omega (arith, first, rest)

-- ---- tests
not_true : false ≡ true → ⊥
not_true h = cc

no_hops_is : (hops : List ℕ) → has_no_hops hops ≡ true → hops ≡ []
no_hops_is [] h = refl
no_hops_is (x ∷ xs) h = cc

module _ (d : Deployment) (c : Core) (m : Rows) (h : Invariant d c m) where
  -- ---- who is known has a ticket that was issued
  -- its root is known
  root_by_hops : (n : ℕ) (id : IntentId) (q : Instance) → length id.hops < n → map.get h.histories id ≡ Some q → is_some (map.get h.histories (root_of id.ticket)) ≡ true
  root_by_hops zero id q few is = absurd (omega (arith, few))
  root_by_hops (suc n) id q few is = elim (root_or_called d h.histories h.well_formed id q is) [
    | inl root ↦ ap is_some (ap (map.get h.histories) (sym root) ∙ is)
    | inr w ↦
        let shorter : length w.caller.hops < n = (let l = longer w.caller w.step in let k = ap (λ (y : IntentId). length y.hops) w.is in omega (arith, few, l, k)) in
        subst (λ t. is_some (map.get h.histories (root_of t)) ≡ true) (ap (λ (y : IntentId). y.ticket) (sym w.is)) (root_by_hops n w.caller w.waiter shorter w.made)
  ]

  -- .. and has its row
  root_there : (t : ℕ) → is_some (map.get h.histories (root_of t)) ≡ true → is_some (map.get m (root_key t)) ≡ true
  root_there t histories = by_option (map.get m (root_key t))
      (λ none. absurd (not_true (sym (ap is_some (subst (λ r. RowMatches d h.histories 0 (Kind.Intent (root_of t)) r) none (h.rows.keys (root_key t)))) ∙ histories)))
      (λ r there. ap is_some there)

  -- .. which was issued
  issued : (t : ℕ) → is_some (map.get m (root_key t)) ≡ true → t ≤ c.newest
  issued t there = leb-true t c.newest (and_parts (nat_lt 0 t) (nat_le t c.newest) (sym (h.tickets t) ∙ there)).1

  recorded_issued : (id : IntentId) (q : Instance) → map.get h.histories id ≡ Some q → id.ticket ≤ c.newest
  recorded_issued id q is = issued id.ticket (root_there id.ticket (root_by_hops (suc (length id.hops)) id q (omega arith) is))

  -- ---- what a key names
  -- a row of an intent
  body_recorded : (home : ℕ) (id : IntentId) (b : Option Body) (o : Option Outcome) → CalleeBodyMatches home b o (map.get h.histories id) → id.ticket ≤ c.newest
  body_recorded home id None o w = absurd w
  body_recorded home id (Some b) o w = recorded_issued id w.0.instance w.0.made

  callee_named : (home : ℕ) (id : IntentId) (r : Option Row) → CalleeMatches (has_ended d h.histories) home r (map.get h.histories id) → is_some r ≡ true → id.ticket ≤ c.newest
  callee_named home id None w there = absurd (not_true there)
  callee_named home id (Some (Row.Intent r)) w there = body_recorded home id r.body r.outcome w.body
  callee_named home id (Some r) w there = absurd w

  root_named : (b : Bool) (home : ℕ) (id : IntentId) → (home == 0) ≡ b → has_no_hops id.hops ≡ true → RootMatches b (map.get m (record { home = home; kind = Kind.Intent id })) (map.get h.histories id) → is_some (map.get m (record { home = home; kind = Kind.Intent id })) ≡ true → id.ticket ≤ c.newest
  root_named false home id at root w there = absurd (not_true (sym (ap is_some w) ∙ there))
  root_named true home id at root w there =
      let zero_is = eqb-true home 0 at in
      let hops = no_hops_is id.hops root in
      issued id.ticket (subst (λ (k : RowKey). is_some (map.get m k) ≡ true) (λ i. record { home = zero_is i; kind = Kind.Intent (record { ticket = id.ticket; hops = hops i }) }) there)

  intent_named : (b : Bool) (home : ℕ) (id : IntentId) → has_no_hops id.hops ≡ b → IntentMatches (has_ended d h.histories) b home (map.get m (record { home = home; kind = Kind.Intent id })) (map.get h.histories id) → is_some (map.get m (record { home = home; kind = Kind.Intent id })) ≡ true → id.ticket ≤ c.newest
  intent_named true home id root w there = root_named (home == 0) home id refl root w there
  intent_named false home id root w there = callee_named home id (map.get m (record { home = home; kind = Kind.Intent id })) w there

  -- what is expected is expected by an instance that has a history
  read_named : (home : ℕ) (a : Place) (r : Option Row) → LogMatches r (expected_read d h.histories home a) → is_some r ≡ true → a.intent.ticket ≤ c.newest
  read_named home a None w there = absurd (not_true there)
  read_named home a (Some (Row.ReadLog v)) w there = by_option (map.get h.histories a.intent)
      (λ none. let clash = sym (ap (expected_value d home a.step) none) ∙ w in cc)
      (recorded_issued a.intent)
  read_named home a (Some r) w there = absurd w

  call_named : (home : ℕ) (a : Place) (r : Option Row) → CallMatches r (expected_call h.histories home a) → is_some r ≡ true → a.intent.ticket ≤ c.newest
  call_named home a None w there = absurd (not_true there)
  call_named home a (Some (Row.Invoke r)) w there = by_option (map.get h.histories a.intent)
      (λ none. let clash = sym (ap (λ i. called_by home i (map.get h.histories (child_of a.intent a.step))) none) ∙ w in cc)
      (recorded_issued a.intent)
  call_named home a (Some r) w there = absurd w

  lockset_named : (b : ℕ) (x : Item) (id : IntentId) (r : Option Row) → LocksetMatches r (expected_lockset d b x id (map.get h.histories id)) (lockset_ahead d h.histories b x id (map.get h.histories id)) → is_some r ≡ true → id.ticket ≤ c.newest
  lockset_named b x id None w there = absurd (not_true there)
  lockset_named b x id (Some Row.Lockset) w there = by_option (map.get h.histories id)
      (λ none. let clash = sym (ap (λ i. expected_lockset d b x id i || lockset_ahead d h.histories b x id i) none) ∙ w in cc)
      (recorded_issued id)
  lockset_named b x id (Some r) w there = absurd w

  -- who got an item in a transaction is its owner, or was called in it, and has the owner's ticket
  member_named : (t : TxId) (x : Item) (id : IntentId) (q : Instance) → map.get h.histories id ≡ Some q → got_by d t x id (h.lock_ahead id) (Some q) ≡ true → t.intent.ticket ≤ c.newest
  member_named t x id q is got = by_option q.enclosing
      (λ none. same_ticket (ap (λ (y : IntentId). y.ticket) (got_since d t x id q none (h.lock_ahead id) got).own))
      (λ w inside. same_ticket (ap (λ (z : TxId). z.intent.ticket) (member_tx d t x id q w inside (h.lock_ahead id) got) ∙ sym (ap (λ (y : IntentId). y.ticket) (called_below d h.histories h.well_formed w id q is inside).is)))
    where
      same_ticket : t.intent.ticket ≡ id.ticket → t.intent.ticket ≤ c.newest
      same_ticket e = subst (λ n. n ≤ c.newest) (sym e) (recorded_issued id q is)

  got_named : (t : TxId) (x : Item) → Got d h.histories h.lock_ahead t x → t.intent.ticket ≤ c.newest
  got_named t x g = by_option (map.get h.histories g.member)
      (λ none. absurd (not_true (sym (ap (got_by d t x g.member (h.lock_ahead g.member)) none) ∙ g.got)))
      (λ q is. member_named t x g.member q is (sym (ap (got_by d t x g.member (h.lock_ahead g.member)) is) ∙ g.got))

  -- a shadow has rows only where its transaction got the item
  shadow_named : (home : ℕ) (t : TxId) (table : ℕ) (key : List ℕ) (n : ℕ) → is_some (map.get m (record { home = home; kind = Kind.Shadow t table key n })) ≡ true → t.intent.ticket ≤ c.newest
  shadow_named home t table key n there = let x : Item = record { func = home; table = table; key = key } in got_named t x (h.shadows.got t x (last_there (shadow_chain m t x) (h.rows.asides t x).linked n there))

  kind_named : (home : ℕ) (k : Kind) → RowMatches d h.histories home k (map.get m (record { home = home; kind = k })) → is_some (map.get m (record { home = home; kind = k })) ≡ true → ticket_of k ≤ c.newest
  kind_named home (Kind.Intent id) w there = intent_named (has_no_hops id.hops) home id refl w there
  kind_named home (Kind.ReadLog a) w there = read_named home a _ w there
  kind_named home (Kind.Invoke a) w there = call_named home a _ w there
  kind_named home (Kind.Data t k n) w there = omega arith
  kind_named home (Kind.Shadow s t k n) w there = shadow_named home s t k n there
  kind_named home (Kind.Lockset i b t k) w there = lockset_named b (record { func = home; table = t; key = k }) i _ w there

  pub tickets_issued : (k : RowKey) → is_some (map.get m k) ≡ true → key_ticket k ≤ c.newest
  tickets_issued k there = kind_named k.home k.kind (h.rows.keys k) there

  -- ---- the newest
  newest_within : greatest (map.entries m) ≤ c.newest
  newest_within = bounded c.newest (map.entries m) (λ k there. tickets_issued k (ap is_some (get-entries m k) ∙ there))

  newest_there : (n : ℕ) → n ≤ c.newest → n ≤ greatest (map.entries m)
  newest_there zero low = omega arith
  newest_there (suc n) low =
      let there : is_some (map.get m (root_key (suc n))) ≡ true = h.tickets (suc n) ∙ both (lt-ltb 0 (suc n) (omega arith)) (le-leb (suc n) c.newest low) in
      at_most (root_key (suc n)) (map.entries m) (sym (ap is_some (get-entries m (root_key (suc n)))) ∙ there)
    where
      both : nat_lt 0 (suc n) ≡ true → nat_le (suc n) c.newest ≡ true → (nat_lt 0 (suc n) && nat_le (suc n) c.newest) ≡ true
      both p q = ap (λ b. b && nat_le (suc n) c.newest) p ∙ q

  pub newest_named : newest_of m ≡ c.newest
  newest_named = let low = newest_within in let high = newest_there c.newest (omega arith) in omega (arith, low, high)
