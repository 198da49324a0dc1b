-- The first turn of a run: the body that it finds is its instance's, and the run begins with it.
use Rattle.std.proofs.Common.{Bool, None, Option, Some, ap, eqb-true, false, if◌then◌else◌, is_some, refl, subst, sym, true, ℕ, ◌==◌, ◌∙◌, ◌≡◌}
use Rattle.std.specs.FinMap as map
use Rattle.beldi_value.specs.{Id.has_no_hops, Id.home_of, declared.outcome.Outcome.Outcome, declared.place.TxId.TxId}
use Rattle.beldi_tree.specs.{declared.deployment.Deployment.Deployment, declared.deployment.Func.Func, Names.func_at}
use Rattle.beldi_book.specs.LinearOrder.{count_changes}
use Rattle.beldi_plain.specs.Plain.{Instance}
use Rattle.beldi_plain_laws.proofs.Maps.{same_some}
use Rattle.beldi_row.specs.{Act.act, Act.added, Table.Rows, declared.act.Act.Act, declared.row.Body.Body, declared.row.IntentRow.IntentRow, declared.row.Row.Row}
use Rattle.beldi_query.specs.Query.{QueryReply, replied, query_reply}
use Rattle.beldi_intent.specs.Intent.{body_in, body_told, intent_key, is_ended, open_body}
use Rattle.beldi_step.specs.{declared.run.Run.Run, declared.run.RunAt.RunAt, HostStep.Core, Run.asks_at, Run.local_steps, Run.begin_in, Run.body_found, Run.body_registered, Run.told_at, Run.inherited_tx}
use Rattle.beldi_lang.specs.Machine.{begun}
use Rattle.beldi_histories.specs.{Matches.has_ended, RowMatching.BodyMatches, RowMatching.CalleeBodyMatches, RowMatching.IntentMatches, RowMatching.IsBodyOf, RowMatching.RootMatches}
use Rattle.beldi_invariant.specs.Invariant.{KnowsAt, KnowsBody, Invariant, RunAt as Knows}
use Rattle.beldi_upkeep.specs.Checked.{Begins, FoundBodiesAreRecorded, NoFirstTurnIsOver, has_begun, has_func}
use Rattle.beldi_upkeep.proofs.{Overs.goes_some, Stranded.no_body_stranded}

-- ---- the body of a row
if_some : (t : Bool) (o : Option Body) (b : Body) → (if t then None else o) ≡ Some b → o ≡ Some b
if_some true o b h = cc
if_some false o b h = h

of_root : (o : Option Body) (u : Option Outcome) (i : Option Instance) (b : Body) → BodyMatches o u i → o ≡ Some b → IsBodyOf b i
of_root None u i b h is = cc
of_root (Some x) u i b h is = subst (λ z. IsBodyOf z i) (same_some is) h.0

of_callee : (home : ℕ) (o : Option Body) (u : Option Outcome) (i : Option Instance) (b : Body) → CalleeBodyMatches home o u i → o ≡ Some b → IsBodyOf b i
of_callee home None u i b h is = cc
of_callee home (Some x) u i b h is = subst (λ z. IsBodyOf z i) (same_some is) h.0

of_root_row : (own : Bool) (r : IntentRow) (i : Option Instance) (b : Body) → RootMatches own (Some (Row.Intent r)) i → r.body ≡ Some b → IsBodyOf b i
of_root_row true r i b h is = of_root r.body r.outcome i b h.body is
of_root_row false r i b h is = cc

of_row : (ended : TxId → Bool) (root : Bool) (home : ℕ) (r : IntentRow) (i : Option Instance) (b : Body) → IntentMatches ended root home (Some (Row.Intent r)) i → r.body ≡ Some b → IsBodyOf b i
of_row ended true home r i b h is = of_root_row (home == 0) r i b h is
of_row ended false home r i b h is = of_callee home r.body r.outcome i b h.body is

-- .. that is of the run's function
in_func : (func : ℕ) (o : Option Body) (b : Body) → body_in func o ≡ Some b → (o ≡ Some b) × (b.func ≡ func)
in_func func None b h = cc
in_func func (Some x) b h = by_test (x.func == func) refl h
  where
    by_test : (t : Bool) → (x.func == func) ≡ t → (if t then Some x else None) ≡ Some b → (Some x ≡ Some b) × (b.func ≡ func)
    by_test true e k = (k, ap (λ (z : Body). z.func) (sym (same_some k)) ∙ eqb-true x.func func e)
    by_test false e k = cc

module _ (d : Deployment) (c : Core) (m : Rows) (h : Invariant d c m) (r : Run) where
  abbrev row : ℕ → Option Row
  row f = map.get m (intent_key r.id f)

  abbrev Found : Body → Type 0
  Found b = IsBodyOf b (map.get h.histories r.id) × (b.func ≡ r.func)

  -- that of its row
  of_intent : (i : IntentRow) (b : Body) → row r.func ≡ Some (Row.Intent i) → body_in r.func (open_body i) ≡ Some b → Found b
  of_intent i b at found =
      let k = in_func r.func (open_body i) b found in (
        of_row (has_ended d h.histories) (has_no_hops r.id.hops) (home_of r.id r.func) i (map.get h.histories r.id) b
            (subst (λ z. IntentMatches (has_ended d h.histories) (has_no_hops r.id.hops) (home_of r.id r.func) z (map.get h.histories r.id)) at (h.rows.keys (intent_key r.id r.func))) (if_some (is_ended i) i.body b k.0),
        k.1,
      )

  by_look : (o : Option Row) (b : Body) → row r.func ≡ o → body_found r.func RunAt.Looks (replied (act Act.Look c.now o).1) ≡ Some b → Found b
  by_look None b at found = cc
  by_look (Some (Row.Intent i)) b at found = of_intent i b at found
  by_look (Some o) b at found = cc

  by_register : (x : Body) → KnowsBody h.histories r x → (o : Option Row) (b : Body) → row r.func ≡ o → body_found r.func (RunAt.Registers x) (replied (act (Act.Register x) c.now o).1) ≡ Some b → Found b
  by_register x k None b at found = let z = in_func r.func (Some x) b found in (subst (λ y. IsBodyOf y (map.get h.histories r.id)) (same_some z.0) k.body, z.1)
  by_register x k (Some (Row.Intent i)) b at found = of_intent i b at found
  by_register x k (Some o) b at found = cc

  by_at : (at : RunAt) (b : Body) → has_begun at ≡ false → KnowsAt d m h.plain c.book h.histories r at → body_found r.func at (query_reply (asks_at r at) c.now m) ≡ Some b → Found b
  by_at RunAt.Looks b yet k found = by_look (row r.func) b refl found
  by_at (RunAt.Registers x) b yet k found =
      by_register x k (row r.func) b refl (subst (λ f. body_found r.func (RunAt.Registers x) (replied (act (Act.Register x) c.now (row f)).1) ≡ Some b) k.func found)
  by_at (RunAt.Begins g) b yet k found = cc

pub found_bodies : FoundBodiesAreRecorded
found_bodies d c m h n r b live yet found = by_at d c m h r r.at b yet (subst (Knows d m h.plain c.book h.histories) live (h.runs.runs n)) found

-- ---- it begins
begins_on : (d : Deployment) (r : Run) (func : Option Func) (b : Body) → is_some func ≡ true → Begins d r.id b.parent (begun d r.func b.args (is_some b.tx), inherited_tx b.tx) → (begin_in d r func (Some b)).next ≡ None → ⊥
begins_on d r None b there on none = cc
begins_on d r (Some f) b there on none = goes_some r (local_steps d r.id (begun d r.func b.args (is_some b.tx), inherited_tx b.tx)) b.parent None _ on none

found_looks : (func : ℕ) (t : QueryReply) (b : Body) → body_found func RunAt.Looks t ≡ Some b → body_told func t ≡ Some b
found_looks func (replied added) b is = cc
found_looks func t b is = is

found_registers : (func : ℕ) (x : Body) (t : QueryReply) (b : Body) → body_found func (RunAt.Registers x) t ≡ Some b → body_registered func x t ≡ Some b
found_registers func x (replied added) b is = is
found_registers func x t b is = is

first_on : (d : Deployment) (n : ℕ) (r : Run) (at : RunAt) (t : QueryReply) (b : Body) → has_begun at ≡ false → body_found r.func at t ≡ Some b → (has_func d r.func ≡ true) × Begins d r.id b.parent (begun d r.func b.args (is_some b.tx), inherited_tx b.tx) → (told_at d n r at t).next ≡ None → ⊥
first_on d n r RunAt.Looks t b yet found on none = begins_on d r (func_at d r.func) b on.0 on.1 (ap (λ o. (begin_in d r (func_at d r.func) o).next) (sym (found_looks r.func t b found)) ∙ none)
first_on d n r (RunAt.Registers x) t b yet found on none = begins_on d r (func_at d r.func) b on.0 on.1 (ap (λ o. (begin_in d r (func_at d r.func) o).next) (sym (found_registers r.func x t b found)) ∙ none)
first_on d n r (RunAt.Begins g) t b yet found on none = cc

pub no_first_turn_over : NoFirstTurnIsOver
no_first_turn_over d c m n r b h live yet found none =
    let k = found_bodies d c m h.invariant n r b live yet found in
    first_on d (count_changes c.book) r r.at (query_reply (asks_at r r.at) c.now m) b yet found (no_body_stranded d c m h r b k.0 k.1) none
