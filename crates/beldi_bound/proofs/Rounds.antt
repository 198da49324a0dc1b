-- What a round of the intent collector says: up to where it stands, each intent that has a body and has not ended has a run.
use Rattle.beldi_plain_laws.proofs.Maps.{same_some}
use Rattle.std.specs.{Option.option_map, Ordering.MatchOrdering, Ordering.is_eq, Ordering.is_lt, Ordering.nat_cmp, Ordering.ordering_reverse, Ordering.ordering_then, Cmp.Lexicographic.slice_cmp, Cmp.ranks, FinMap.FinMap, declared.cmp.Ordering.Ordering, declared.cmp.Ordering.TheVariants.Less, declared.cmp.Ordering.TheVariants.Equal, declared.cmp.Ordering.TheVariants.Greater}
use Rattle.std.specs.FinMap as map
use Rattle.std.specs.declared.alloc.AllocError.{AllocError}
use Rattle.std.proofs.Common.{Bool, Err, List, None, Ok, Option, Result, Some, [], ap, arith, eqb-true, false, if◌then◌else◌, inl, inr, is_some, nat_lt, not, refl, subst, sym, true, ℕ, ◌&&◌, ◌+◌, ◌-◌, ◌<◌, ◌==◌, ◌^◌, ◌≤◌, ◌∙◌, ◌∷◌, ◌≡◌, ◌⊎◌}
use Rattle.std.proofs.lemmas.Bool.{leb-true}
use Rattle.beldi_value.specs.{Id.root_of, declared.id.IntentId.IntentId}
use Rattle.beldi_tree.specs.declared.deployment.Deployment.{Deployment}
use Rattle.beldi_row.{proofs.Gets.key_same, proofs.Least.next_row_least, specs.Key.RowKey, specs.Key.key_cmp, specs.Key.kind_cmp, specs.Key.least_key, specs.KeyOrder.key_total, specs.Table.IsNext, specs.Table.Rows, specs.Table.is_open as row_is_open, specs.Table.next_row, specs.declared.key.Kind.Kind, specs.declared.row.Body.Body, specs.declared.row.IntentRow.IntentRow, specs.declared.row.Row.Row, specs.declared.table.TableErr.TableErr}
use Rattle.beldi_query.specs.{Query.CameOn, Query.QueryReply, declared.query.Query.Query}
use Rattle.beldi_intent.specs.Intent.{is_ended}
use Rattle.beldi_collect.{proofs.Jumps.none_jumped, specs.Collect.collect_output, specs.Collect.found_output, specs.Collect.open_at, specs.Collect.passing, specs.Collect.row_output}
use Rattle.beldi_step.proofs.StepRuns.{of_plan}
use Rattle.beldi_step.specs.{HostStep.Core, HostStep.EventBy, HostStep.EventOn, HostStep.Followed, HostStep.collect_next, HostStep.counted, HostStep.has_run, HostStep.is_crowded, HostStep.launched, HostStep.most_runs, HostStep.new_run, HostStep.passed, HostStep.with_run, Next.PassesNoOpen, declared.event.Event.Event, declared.event.EventReply.EventReply, declared.run.Run.Run}
use Rattle.beldi_histories.{proofs.Cases.by_cases, specs.RowMatching.RootMatches, specs.Stands.key_in}
use Rattle.beldi_invariant.specs.Invariant.{Invariant}
use Rattle.beldi_bound.specs.Ends.{Sound}
use Rattle.beldi_bound.proofs.Facts.{EachHasRun}

-- each open intent up to a key has a run
pub record HaveRunsTo (runs : FinMap nat_cmp Run) (m : Rows) (k : RowKey) : Type 0 where
  pub each : (q : RowKey) (id : IntentId) (i : IntentRow) (b : Body) → q.kind ≡ Kind.Intent id → map.get m q ≡ Some (Row.Intent i) → i.body ≡ Some b → is_ended i ≡ false → (has_run runs id ≡ true) ⊎ (key_cmp k q ≡ Less)

-- what an event of the collector makes of the core, where the rows stay
pub data Went (d : Deployment) (c b : Core) (m : Rows) : EventReply → Type 0 where
  spent : b ≡ c → Went d c b m EventReply.Spent
  shut : b ≡ counted c → c.shut ≡ true → Went d c b m EventReply.Shut
  round : b ≡ record (counted c) { cursor = least_key } → next_row m c.cursor ≡ None → Went d c b m EventReply.Round
  crowded : b ≡ counted c → most_runs ≤ map.len c.runs → Went d c b m EventReply.Crowded
  moved : (k : RowKey) → b ≡ record (counted c) { cursor = k } → (HaveRunsTo c.runs m c.cursor → HaveRunsTo c.runs m k) → Went d c b m EventReply.Passed
  more : (k : RowKey) (id : IntentId) (f : ℕ) → b ≡ with_run (record (counted c) { cursor = k }) (new_run d c id f) → Went d c b m (EventReply.Launched (c.last_run + 1) id)
  dropped : b ≡ counted c → Went d c b m EventReply.Dropped

-- ---- the row of an intent that has a body and has not ended
record IsOpen (k : RowKey) (r : Row) (id : IntentId) (b : Body) : Type 0 where
  intent : IntentRow
  key : k.kind ≡ Kind.Intent id
  row : r ≡ Row.Intent intent
  lasts : is_ended intent ≡ false
  has : intent.body ≡ Some b

open_there : (k : RowKey) (r : Row) (id : IntentId) (b : Body) → IsOpen k r id b → open_at k.kind r ≡ Some (id, b)
open_there k r id b h = (λ j. open_at (h.key j) (h.row j)) ∙ (λ j. option_map (λ y. (id, y)) (if h.lasts j then None else h.has j))

same_pair : (v w : IntentId × Body) → Some v ≡ Some w → v.0 ≡ w.0
same_pair v w h = ap (λ (z : IntentId × Body). z.0) (same_some h)

is_open : (k : RowKey) (r : Row) (x : IntentId × Body) → open_at k.kind r ≡ Some x → k.kind ≡ Kind.Intent x.0
is_open k r x = by_row k.kind refl r
  where
    by_body : (id : IntentId) → k.kind ≡ Kind.Intent id → (o : Option Body) → option_map (λ y. (id, y)) o ≡ Some x → k.kind ≡ Kind.Intent x.0
    by_body id at None h = cc
    by_body id at (Some y) h = subst (λ (z : IntentId × Body). k.kind ≡ Kind.Intent z.0) (same_some h) at

    by_row : (kind : Kind) → k.kind ≡ kind → (s : Row) → open_at kind s ≡ Some x → k.kind ≡ Kind.Intent x.0
    by_row (Kind.Intent id) at (Row.Intent i) h = by_body id at (if is_ended i then None else i.body) h
    by_row (Kind.Intent id) at s h = cc
    by_row kind at s h = cc

-- ---- no intent is of ticket 0
abbrev zero_key : ℕ → RowKey
zero_key home = record { home = home; kind = Kind.Intent (record { ticket = 0; hops = [] }) }

none_is_first : (d : Deployment) (c : Core) (m : Rows) → Sound d c m → (home : ℕ) → map.get m (zero_key home) ≡ None
none_is_first d c m s home = by_cases (home == 0) (λ t. at_zero (eqb-true home 0 t)) (λ t. subst (λ z. RootMatches z (map.get m (zero_key home)) (map.get h.histories (root_of 0))) t (h.rows.keys (zero_key home)))
  where
    h : Invariant d c m
    h = s.upkeep.invariant

    nothing : (r : Option Row) → is_some r ≡ false → r ≡ None
    nothing None e = refl
    nothing (Some x) e = cc

    at_zero : home ≡ 0 → map.get m (zero_key home) ≡ None
    at_zero e = ap (λ z. map.get m (zero_key z)) e ∙ nothing (map.get m (zero_key 0)) (h.tickets 0)

-- so all of them are past the least key
zero_or_less : (n : ℕ) → (nat_cmp 0 n ≡ Less) ⊎ (n ≡ 0)
zero_or_less n = by_order (nat_cmp 0 n) refl
  where
    by_order : (o : Ordering) → nat_cmp 0 n ≡ o → (nat_cmp 0 n ≡ Less) ⊎ (n ≡ 0)
    by_order Less is = inl is
    by_order Equal is = let same : 0 ≡ n = subst (λ r. MatchOrdering r (0 < n) (0 ≡ n) (n < 0)) is (ranks 0 n) in inr (sym same)
    by_order Greater is = let less : n < 0 = subst (λ r. MatchOrdering r (0 < n) (0 ≡ n) (n < 0)) is (ranks 0 n) in absurd (omega (arith, less))

module _ (m : Rows) (first : map.get m (zero_key 0) ≡ None) (q : RowKey) (id : IntentId) (i : IntentRow) (is : q.kind ≡ Kind.Intent id) (there : map.get m q ≡ Some (Row.Intent i)) where
  by_hops : (hops : List ℕ) → id.hops ≡ hops → q.home ≡ 0 → id.ticket ≡ 0 → ordering_then (slice_cmp nat_cmp [] hops) Equal ≡ Less
  by_hops (x ∷ xs) h home ticket = refl
  by_hops [] h home ticket =
      let own : id ≡ record { ticket = 0; hops = [] } = λ j. record { ticket = ticket j; hops = h j } in
      let kind : q.kind ≡ Kind.Intent (record { ticket = 0; hops = [] }) = is ∙ ap Kind.Intent own in
      let same : q ≡ zero_key 0 = λ j. record { home = home j; kind = kind j } in
      let clash : None ≡ Some (Row.Intent i) = sym first ∙ ap (map.get m) (sym same) ∙ there in cc

  by_ticket : q.home ≡ 0 → kind_cmp (Kind.Intent (record { ticket = 0; hops = [] })) (Kind.Intent id) ≡ Less
  by_ticket home = elim (zero_or_less id.ticket) [
    | inl less ↦ ap (λ o. ordering_then o (ordering_then (slice_cmp nat_cmp [] id.hops) Equal)) less
    | inr zero ↦ ap (λ t. ordering_then (nat_cmp 0 t) (ordering_then (slice_cmp nat_cmp [] id.hops) Equal)) zero ∙ by_hops id.hops refl home zero
  ]

  is_past : key_cmp least_key q ≡ Less
  is_past = ap (λ z. ordering_then (nat_cmp 0 q.home) (kind_cmp (Kind.Intent (record { ticket = 0; hops = [] })) z)) is ∙ elim (zero_or_less q.home) [
    | inl less ↦ ap (λ o. ordering_then o (kind_cmp (Kind.Intent (record { ticket = 0; hops = [] })) (Kind.Intent id))) less
    | inr zero ↦ ap (λ t. ordering_then (nat_cmp 0 t) (kind_cmp (Kind.Intent (record { ticket = 0; hops = [] })) (Kind.Intent id))) zero ∙ by_ticket zero
  ]

-- ---- a round begins at the least key
pub to_least : (d : Deployment) (c : Core) (m : Rows) (runs : FinMap nat_cmp Run) → Sound d c m → HaveRunsTo runs m least_key
to_least d c m runs s = record { each = λ q id i b is there has lasts. inr (is_past m (none_is_first d c m s 0) q id i is there) }

-- .. and ends where no row follows
pub at_end : (c : Core) (m : Rows) (k : RowKey) → next_row m k ≡ None → HaveRunsTo c.runs m k → EachHasRun c m
at_end c m k none h home id i b there has lasts = elim (h.each (key_in home id) id i b refl there has lasts) [
  | inl run ↦ run
  | inr past ↦ let clash : None ≡ Some (Row.Intent i) = sym ((subst (IsNext m k) none (next_row_least m k)) (key_in home id) past) ∙ there in cc
]

-- .. and passes over rows that are of no open intent
pub over_none : (runs : FinMap nat_cmp Run) (m : Rows) (k q : RowKey) → PassesNoOpen m k q → HaveRunsTo runs m k → HaveRunsTo runs m q
over_none runs m k q none h = record {
  each = λ e id i b is there has lasts. elim (h.each e id i b is there has lasts) [
    | inl run ↦ inl run
    | inr past ↦ by_cases (is_lt (key_cmp q e)) (λ t. inr (is_less (key_cmp q e) t)) (λ f.
        let clash : false ≡ true = sym (none.none e (Row.Intent i) past (λ less. let clash : true ≡ false = sym (ap is_lt less) ∙ f in cc) there) ∙ (λ j. row_is_open (is j) (Row.Intent i)) ∙ (λ j. is_some (has j) && not (lasts j)) in cc)
  ];
}
  where
    is_less : (o : Ordering) → is_lt o ≡ true → o ≡ Less
    is_less Less t = refl
    is_less o t = cc

-- ---- it passes a row
module _ (runs : FinMap nat_cmp Run) (m : Rows) (k : RowKey) (e : RowKey × Row) (first : (home : ℕ) → map.get m (zero_key home) ≡ None) (next : next_row m k ≡ Some e) (own : (id : IntentId) (b : Body) → IsOpen e.0 e.1 id b → has_run runs id ≡ true) where
  least : IsNext m k (Some e)
  least = subst (IsNext m k) next (next_row_least m k)

  module _ (q : RowKey) (id : IntentId) (i : IntentRow) (b : Body) (is : q.kind ≡ Kind.Intent id) (there : map.get m q ≡ Some (Row.Intent i)) (has : i.body ≡ Some b) (lasts : is_ended i ≡ false) where
    abbrev Goal : Type 0
    Goal = (has_run runs id ≡ true) ⊎ (key_cmp (passing e.0 e.0.kind) q ≡ Less)

    at_row : q ≡ e.0 → has_run runs id ≡ true
    at_row same = own id b (record { intent = i; key = ap (λ (z : RowKey). z.kind) (sym same) ∙ is; row = same_some (sym least.1 ∙ ap (map.get m) (sym same) ∙ there); lasts = lasts; has = has })

    at_home : (t : Bool) → q ≡ (if t then zero_key (e.0.home + 1) else e.0) → has_run runs id ≡ true
    at_home true same = let clash : None ≡ Some (Row.Intent i) = sym (first (e.0.home + 1)) ∙ ap (map.get m) (sym same) ∙ there in cc
    at_home false same = at_row same

    at_passing : (kind : Kind) → q ≡ passing e.0 kind → has_run runs id ≡ true
    at_passing (Kind.Intent j) same = at_row same
    at_passing kind same = at_home (nat_lt e.0.home (2 ^ 16 - 1)) same

    greater : (a z : RowKey) → key_cmp a z ≡ Greater → key_cmp z a ≡ Less
    greater a z h = key_total.antisymm z a ∙ ap ordering_reverse h

    past_row : key_cmp e.0 q ≡ Less → (o : Ordering) → key_cmp q (passing e.0 e.0.kind) ≡ o → Goal
    past_row past Less h = absurd (none_jumped e.0 q id past h is)
    past_row past Equal h = inl (at_passing e.0.kind (key_same q (passing e.0 e.0.kind) (ap is_eq h)))
    past_row past Greater h = inr (greater q (passing e.0 e.0.kind) h)

    past_cursor : key_cmp k q ≡ Less → (o : Ordering) → key_cmp q e.0 ≡ o → Goal
    past_cursor past Less h = let clash : None ≡ Some (Row.Intent i) = sym (least.2 q past h) ∙ there in cc
    past_cursor past Equal h = inl (at_row (key_same q e.0 (ap is_eq h)))
    past_cursor past Greater h = past_row (greater q e.0 h) (key_cmp q (passing e.0 e.0.kind)) refl

  passes : HaveRunsTo runs m k → HaveRunsTo runs m (passing e.0 e.0.kind)
  passes h = record {
    each = λ q id i b is there has lasts. elim (h.each q id i b is there has lasts) [
      | inl run ↦ inl run
      | inr past ↦ past_cursor q id i b is there has lasts past (key_cmp q e.0) refl
    ];
  }

-- ---- an event of the collector
module _ (d : Deployment) (c : Core) (m : Rows) (s : Sound d c m) where
  abbrev Leads : Core × EventReply → Type 0
  Leads p = Went d c p.0 m p.1

  abbrev if_no_run : RowKey → IntentId → ℕ → Bool → Core × EventReply
  if_no_run k id f t = if t then (counted c, EventReply.Crowded) else launched d (record (counted c) { cursor = k }) id f

  module _ (e : RowKey × Row) (next : next_row m c.cursor ≡ Some e) where
    its_cursor : (y : IntentId × Body) → open_at e.0.kind e.1 ≡ Some y → passing e.0 e.0.kind ≡ e.0
    its_cursor y some = ap (passing e.0) (is_open e.0 e.1 y some)

    by_crowd : (y : IntentId × Body) (t : Bool) → is_crowded c ≡ t → Leads (if_no_run e.0 y.0 y.1.func t)
    by_crowd y true is = crowded refl (leb-true most_runs (map.len c.runs) is)
    by_crowd y false is = more e.0 y.0 y.1.func refl

    by_run : (y : IntentId × Body) → open_at e.0.kind e.1 ≡ Some y → (t : Bool) → has_run c.runs y.0 ≡ t → Leads (if t then passed (counted c) e.0 else if_no_run e.0 y.0 y.1.func (is_crowded c))
    by_run y some true has = moved e.0 refl (λ h. subst (HaveRunsTo c.runs m) (its_cursor y some)
        (passes c.runs m c.cursor e (none_is_first d c m s) next (λ id b u. ap (has_run c.runs) (same_pair (id, b) y (sym (open_there e.0 e.1 id b u) ∙ some)) ∙ has) h))
    by_run y some false none = by_crowd y (is_crowded c) refl

    by_open : (o : Option (IntentId × Body)) → open_at e.0.kind e.1 ≡ o → Leads (collect_next d (counted c) (row_output e.0 o))
    by_open None none = moved (passing e.0 e.0.kind) refl (passes c.runs m c.cursor e (none_is_first d c m s) next (λ id b u. let clash : Some (id, b) ≡ None = sym (open_there e.0 e.1 id b u) ∙ none in cc))
    by_open (Some y) some = by_run y some (has_run c.runs y.0) refl

  by_found : (o : Option (RowKey × Row)) → next_row m c.cursor ≡ o → Leads (collect_next d (counted c) (found_output o))
  by_found None next = round refl next
  by_found (Some e) next = by_open e next (open_at e.0.kind e.1) refl

  module _ (room old new : ℕ) (b : Core) (n : Rows) (x : EventReply) where
    abbrev CameSo : Type 0
    CameSo = (n ≡ m) × Went d c b m x

    leads : (p : Core × EventReply) → ◌≡◌ {A = Core × EventReply} (b, x) p → Leads p → Went d c b m x
    leads p is h = subst Leads (sym is) h

    by_query : (w : Result QueryReply TableErr) → Followed d Event.Ic (counted c) w b (Ok x) → CameOn (Query.After c.cursor) c.now room w m n → CameSo
    by_query (Ok t) is came = (came.0, leads (collect_next d (counted c) (found_output (next_row m c.cursor))) (is ∙ ap (λ z. collect_next d (counted c) (collect_output z)) came.1) (by_found (next_row m c.cursor) refl))
    by_query (Err TableErr.OutOfMemory) is came = let clash = ap (λ (p : Core × Result EventReply AllocError). p.1) is in cc
    by_query (Err TableErr.Failed) is came = (came, leads (counted c, EventReply.Dropped) (λ j. (((is j).0), said (ap (λ (p : Core × Result EventReply AllocError). p.1) is) j)) (dropped refl))
      where
        said : {v w : EventReply} → ◌≡◌ {A = Result EventReply AllocError} (Ok v) (Ok w) → v ≡ w
        said h = cc
    by_query (Err (TableErr.Full live most)) is came = absurd came

    by_event : EventOn d room old new Event.Ic c m b n (Ok x) → CameSo
    by_event = of_plan d Event.Ic c (λ p. EventBy d room old new Event.Ic (counted c) p m b n (Ok x) → CameSo) (λ t s. by_query s.0 s.1 s.2)
        (λ t s. (s.1, leads (counted c, EventReply.Shut) (λ j. (s.0.0 j, s.0.1 j)) (shut refl t)))
        (λ s. (s.1, leads (c, EventReply.Spent) (λ j. (s.0.0 j, s.0.1 j)) (spent refl)))

pub collector_went : (d : Deployment) (room old new : ℕ) (c b : Core) (m n : Rows) (x : EventReply) → Sound d c m → EventOn d room old new Event.Ic c m b n (Ok x) → (n ≡ m) × Went d c b m x
collector_went d room old new c b m n x s event = by_event d c m s room old new b n x event
