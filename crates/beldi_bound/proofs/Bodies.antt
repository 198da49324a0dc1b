-- What a host with the invariant says of the row of an intent: one that has ended has its body, and so has one of a callee.
use Rattle.beldi_histories.proofs.Begins.{false_true}
use Rattle.std.proofs.Common.{◌≡◌, ℕ, ◌==◌, ◌||◌, Bool, true, false, Option, Some, None, is_some, refl, sym, ap, subst, ◌∙◌, arith}
use Rattle.std.specs.FinMap as map
use Rattle.beldi_value.specs.{Id.has_no_hops, declared.id.IntentId.IntentId, declared.outcome.Outcome.Outcome, declared.place.TxId.TxId}
use Rattle.beldi_tree.specs.declared.deployment.Deployment.{Deployment}
use Rattle.beldi_plain.specs.Plain.{Instance}
use Rattle.beldi_row.specs.{Table.Rows, declared.row.Body.Body, declared.row.IntentRow.IntentRow, declared.row.Row.Row}
use Rattle.beldi_intent.specs.Intent.{is_ended}
use Rattle.beldi_step.specs.{HostStep.Core, Run.is_waited}
use Rattle.beldi_histories.specs.{Matches.has_ended as tx_over, RowMatching.CalleeBodyMatches, RowMatching.CalleeMatches, RowMatching.FinishMatches, RowMatching.IntentMatches, Histories.tx_end, RowMatching.OutcomeMatches, RowMatching.RootMatches, RowMatching.tx_in, Stands.body_of, Stands.key_in}
use Rattle.beldi_histories.proofs.{Cases.by_option, Instances.outcome_kept, Participants.decided_over}
use Rattle.beldi_invariant.specs.Invariant.{Invariant}
use Rattle.beldi_upkeep.specs.Checked.{body_at}
use Rattle.beldi_bound.specs.{SettleWork.has_ended}

pub record RowHas (o : Option Row) : Type 0 where
  pub row : IntentRow
  pub body : Body
  pub there : o ≡ Some (Row.Intent row)
  pub has : row.body ≡ Some body

pub has_body : {o : Option Row} (h : RowHas o) → body_at o ≡ Some h.body
has_body h = ap body_at h.there ∙ h.has

neither : (o : Option Outcome) (f : Option ℕ) → o ≡ None → is_some f ≡ is_some o → (is_some o || is_some f) ≡ true → ⊥
neither o f none same ends = grind arith

-- one that has ended
root_ended : (t : Bool) (o : Option Row) (q : Option Instance) → RootMatches t o q → has_ended o ≡ true → RowHas o
root_ended true (Some (Row.Intent r)) q f ends = by_body r.body refl
  where
    by_body : (b : Option Body) → r.body ≡ b → RowHas (Some (Row.Intent r))
    by_body None is = absurd (neither r.outcome r.finish (f.bare is) f.finishes ends)
    by_body (Some b) is = record { row = r; body = b; there = refl; has = is }
root_ended true o q f ends = cc
root_ended false (Some r) q f ends = cc
root_ended false None q f ends = cc

-- that of a callee
callee_row : (over : TxId → Bool) (home : ℕ) (o : Option Row) (q : Option Instance) → CalleeMatches over home o q → is_some o ≡ true → RowHas o
callee_row over home (Some (Row.Intent r)) q f there = by_body r.body refl f.body
  where
    by_body : (b : Option Body) → r.body ≡ b → CalleeBodyMatches home b r.outcome q → RowHas (Some (Row.Intent r))
    by_body None is g = absurd g
    by_body (Some b) is g = record { row = r; body = b; there = refl; has = is }
callee_row over home None q f there = cc
callee_row over home (Some w) q f there = absurd f

ended_there : (o : Option Row) → has_ended o ≡ true → is_some o ≡ true
ended_there None h = cc
ended_there (Some r) h = refl

row_ended : (over : TxId → Bool) (t : Bool) (home : ℕ) (o : Option Row) (q : Option Instance) → IntentMatches over t home o q → has_ended o ≡ true → RowHas o
row_ended over true home o q f ends = root_ended (home == 0) o q f ends
row_ended over false home o q f ends = callee_row over home o q f (ended_there o ends)

module _ (d : Deployment) (c : Core) (m : Rows) (h : Invariant d c m) where
  pub ended_has : (home : ℕ) (id : IntentId) → has_ended (map.get m (key_in home id)) ≡ true → RowHas (map.get m (key_in home id))
  ended_has home id ends = row_ended (tx_over d h.histories) (has_no_hops id.hops) home (map.get m (key_in home id)) (map.get h.histories id) (h.rows.keys (key_in home id)) ends

  pub callee_has : (home : ℕ) (id : IntentId) → has_no_hops id.hops ≡ false → is_some (map.get m (key_in home id)) ≡ true → RowHas (map.get m (key_in home id))
  callee_has home id below there = callee_row (tx_over d h.histories) home (map.get m (key_in home id)) (map.get h.histories id)
      (subst (λ t. IntentMatches (tx_over d h.histories) t home (map.get m (key_in home id)) (map.get h.histories id)) below (h.rows.keys (key_in home id))) there

  -- its function is the home's
  pub callee_func : (home : ℕ) (id : IntentId) → has_no_hops id.hops ≡ false → (b : RowHas (map.get m (key_in home id))) → b.body.func ≡ home
  callee_func home id below b = by_row (map.get m (key_in home id)) b (subst (λ t. IntentMatches (tx_over d h.histories) t home (map.get m (key_in home id)) (map.get h.histories id)) below (h.rows.keys (key_in home id)))
    where
      by_body : (o : Option Body) (u : Option Outcome) (q : Option Instance) (y : Body) → o ≡ Some y → CalleeBodyMatches home o u q → y.func ≡ home
      by_body None u q y is g = absurd g
      by_body (Some z) u q y is g = let same : z ≡ y = cc in ap (λ (w : Body). w.func) (sym same) ∙ g.1

      by_row : (o : Option Row) (b : RowHas o) → CalleeMatches (tx_over d h.histories) home o (map.get h.histories id) → b.body.func ≡ home
      by_row None b f = let clash = b.there in cc
      by_row (Some (Row.Intent r)) b f = let same : r ≡ b.row = row_is b.there in by_body r.body r.outcome (map.get h.histories id) b.body (ap (λ (z : IntentRow). z.body) same ∙ b.has) f.body
        where
          row_is : {x y : IntentRow} → ◌≡◌ {A = Option Row} (Some (Row.Intent x)) (Some (Row.Intent y)) → x ≡ y
          row_is h = cc
      by_row (Some w) b f = absurd f

-- ---- a callee whose row has ended has its outcome
module _ (d : Deployment) (c : Core) (m : Rows) (h : Invariant d c m) (home : ℕ) (id : IntentId) (below : has_no_hops id.hops ≡ false) (q : Instance) (made : map.get h.histories id ≡ Some q) where
  its_match : CalleeMatches (tx_over d h.histories) home (map.get m (key_in home id)) (Some q)
  its_match = subst (CalleeMatches (tx_over d h.histories) home (map.get m (key_in home id))) made
      (subst (λ t. IntentMatches (tx_over d h.histories) t home (map.get m (key_in home id)) (map.get h.histories id)) below (h.rows.keys (key_in home id)))

  by_tx : (t : Option TxId) (f : Option ℕ) (o : Option Outcome) → q.enclosing ≡ t → o ≡ None → FinishMatches (tx_over d h.histories) t f o → (is_some o || is_some f) ≡ true → is_some q.outcome ≡ true
  by_tx None f o in_it none g ends = absurd (neither o f none g ends)
  by_tx (Some t) f o in_it none g ends = by_option (tx_end d h.histories t) (λ open_still. let clash : false ≡ true = sym (ap is_some open_still) ∙ g (finished o f none ends) in absurd (false_true clash)) (λ z over. decided_over d h.histories h.well_formed id q t z made in_it over)
    where
      finished : (o : Option Outcome) (f : Option ℕ) → o ≡ None → (is_some o || is_some f) ≡ true → is_some f ≡ true
      finished o f none ends = grind arith

  by_body : (b : Option Body) (r : IntentRow) → r.body ≡ b → CalleeBodyMatches home b r.outcome (Some q) → FinishMatches (tx_over d h.histories) (tx_in b) r.finish r.outcome → is_ended r ≡ true → is_some q.outcome ≡ true
  by_body None r is g f ends = absurd g
  by_body (Some b) r is g f ends =
      let same : g.0.instance ≡ q = some_q (sym g.0.made) in
      let its_tx : q.enclosing ≡ b.tx = ap (λ (y : Body). y.tx) (sym (g.0.body ∙ ap body_of same)) in
      by_option r.outcome (λ none. by_tx b.tx r.finish r.outcome its_tx none f ends) (λ u some. ap is_some (ap (λ (z : Instance). z.outcome) (sym same) ∙ outcome_kept (is_waited b.parent) r.outcome g.0.instance.outcome g.2 u some))
    where
      some_q : {x y : Instance} → Some x ≡ Some y → x ≡ y
      some_q h = cc

  by_row : (o : Option Row) → CalleeMatches (tx_over d h.histories) home o (Some q) → has_ended o ≡ true → is_some q.outcome ≡ true
  by_row None g ends = cc
  by_row (Some (Row.Intent r)) g ends = by_body r.body r refl g.body g.finishes ends
  by_row (Some w) g ends = absurd g

  pub ended_outcome : has_ended (map.get m (key_in home id)) ≡ true → is_some q.outcome ≡ true
  ended_outcome ends = by_row (map.get m (key_in home id)) its_match ends

  -- the outcome of who nobody waits for is in its row
  row_outcome : (o : Option Row) (r : IntentRow) → o ≡ Some (Row.Intent r) → CalleeMatches (tx_over d h.histories) home o (Some q) → is_waited q.parent ≡ false → r.outcome ≡ q.outcome
  row_outcome None r is g idle = cc
  row_outcome (Some (Row.Intent i)) r is g idle = ap (λ (z : IntentRow). z.outcome) (sym (row_is is)) ∙ by_its i.body g.body
    where
      row_is : {x y : IntentRow} → ◌≡◌ {A = Option Row} (Some (Row.Intent x)) (Some (Row.Intent y)) → x ≡ y
      row_is h = cc

      by_its : (b : Option Body) → CalleeBodyMatches home b i.outcome (Some q) → i.outcome ≡ q.outcome
      by_its None g = absurd g
      by_its (Some b) g =
          let same : g.0.instance ≡ q = some_q (sym g.0.made) in
          let from : is_waited b.parent ≡ false = ap (λ (y : Body). is_waited y.parent) (g.0.body ∙ ap body_of same) ∙ idle in
          sym (subst (λ t. OutcomeMatches t i.outcome g.0.instance.outcome) from g.2) ∙ ap (λ (z : Instance). z.outcome) same
        where
          some_q : {x y : Instance} → Some x ≡ Some y → x ≡ y
          some_q h = cc
  row_outcome (Some w) r is g idle = absurd g

  pub idle_outcome : (r : IntentRow) → map.get m (key_in home id) ≡ Some (Row.Intent r) → is_waited q.parent ≡ false → r.outcome ≡ q.outcome
  idle_outcome r is idle = row_outcome (map.get m (key_in home id)) r is its_match idle
