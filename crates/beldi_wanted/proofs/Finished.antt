-- Where all that was bound is finished no item has a spare row.
use Rattle.std.proofs.Common.{◌≡◌, inl, inr, ℕ, ◌+◌, true, Option, None, Some, is_some, refl, ap, sym, ◌∙◌}
use Rattle.std.specs.FinMap as map
use Rattle.beldi_value.specs.declared.{id.IntentId.IntentId, place.Owner.TheVariants.Tx as ByTx}
use Rattle.beldi_tree.specs.declared.deployment.Deployment.{Deployment}
use Rattle.beldi_plain.specs.Item.{Item}
use Rattle.beldi_row.specs.{Table.Rows, declared.row.Body.Body, declared.row.Cell.Cell, declared.row.IntentRow.IntentRow, declared.row.Row.Row}
use Rattle.beldi_chain.specs.Chain.{chain}
use Rattle.beldi_links.specs.Links.{Linked}
use Rattle.beldi_step.specs.HostStep.{Core}
use Rattle.beldi_histories.specs.{Contents.head_key, Stands.key_in}
use Rattle.beldi_histories.proofs.Cases.{by_option}
use Rattle.beldi_invariant.specs.{FoundInside.has_finish, Invariant.Invariant}
use Rattle.beldi_upkeep.specs.{Callees.Seats, Callees.owner_key, Checked.body_at}
use Rattle.beldi_upkeep.proofs.{FromInvariant.body_recorded, PastOwn.got_owner}
use Rattle.beldi_wanted.specs.Wanted.{AllFinished, FinishedEndAtLast, FinishedEndOnce, FinishedHaveNoSpare, IsLent, HasExpectedNote}
use Rattle.beldi_wanted.proofs.{Bodies.has_body, Bodies.over_here, ExpectedNotes.expected_is_open, Spares.linked_at, Spares.row_ends}

-- a row with a body is an intent's
record IsBound (r : Option Row) (b : Body) : Type 0 where
  row : IntentRow
  is : r ≡ Some (Row.Intent row)
  body : row.body ≡ Some b

bound_by : (r : Option Row) (b : Body) → body_at r ≡ Some b → IsBound r b
bound_by None b h = cc
bound_by (Some (Row.Intent i)) b h = record { row = i; is = refl; body = h }
bound_by (Some (Row.ReadLog v)) b h = cc
bound_by (Some (Row.Invoke v)) b h = cc
bound_by (Some (Row.Cell v)) b h = cc
bound_by (Some Row.Lockset) b h = cc

module _ (m : Rows) (all : AllFinished m) where
  bound_over : (home : ℕ) (id : IntentId) (b : Body) → body_at (map.get m (key_in home id)) ≡ Some b → has_finish (map.get m (key_in home id)) ≡ true
  bound_over home id b is = let w = bound_by (map.get m (key_in home id)) b is in ap has_finish w.is ∙ all home id w.row w.is (ap is_some w.body)

  module _ (d : Deployment) (c : Core) (h : Invariant d c m) (seats : Seats m) (x : Item) where
    -- nobody is to leave a note
    none_expected : HasExpectedNote d m x → ⊥
    none_expected w =
        let b = bound_by (map.get m (key_in w.home w.id)) _ w.body in
        let k = body_recorded d c m h w.home w.id b.row _ (record { there = b.is; body = b.body }) in
        expected_is_open d c m h x w k.instance k.made k.body (over_here d c m h w.id k.instance k.made w.home (bound_over w.home w.id _ w.body))

    -- .. and no transaction owns the item
    none_lent : IsLent m x → ⊥
    none_lent w =
        let o = got_owner d h.histories h.well_formed w.tx h.lock_ahead x ((h.rows.txs x).owned_is_got w.tx w.owner) in
        let key = owner_key w.tx in
        let there = seats.owner_has_row (ByTx w.tx) x w.owner in
        seats.owns_none w.tx x (bound_over key.home w.tx.intent _ (has_body d c m h w.tx.intent o.owner o.made key.home there)) w.owner

pub none_spare : FinishedHaveNoSpare
none_spare d c m h seats wanted all x s = elim (wanted.spares x s) [
  | inl owed ↦ none_expected m all d c h seats x owed
  | inr lent ↦ none_lent m all d c h seats x lent
]

pub end_at_last : FinishedEndAtLast
end_at_last d c m h seats wanted all x l = by_option (chain m (head_key x) (l.last + 1)) (λ none. none)
    (λ r some. absurd (none_spare d c m h seats wanted all x (record { row = l.last; cell = l.tail; there = l.there; ends = l.ends; after = ap is_some some })))

pub end_once : FinishedEndOnce
end_once d c m h seats wanted all x a b p q at ends there none =
    let l = linked_at (chain m (head_key x)) (h.rows.chains x) a (ap is_some at) in
    last l a p at ends ∙ sym (last l b q there none)
  where
    last : (l : Linked (chain m (head_key x))) (r : ℕ) (u : Cell) → chain m (head_key x) r ≡ Some (Row.Cell u) → u.next ≡ None → r ≡ l.last
    last l r u is free = elim (row_ends (chain m (head_key x)) l r u is free) [
      | inl same ↦ same
      | inr past ↦ let clash = sym (end_at_last d c m h seats wanted all x l) ∙ ap (chain m (head_key x)) (sym past) ∙ is in cc
    ]
