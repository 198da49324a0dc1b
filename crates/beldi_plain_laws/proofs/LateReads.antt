-- A read that is kept late: it passes every entry that leaves its instance as it is.
use Rattle.std.specs.Prelude.{◌&&◌}
use Rattle.beldi_plain_laws.proofs.Names.{Aborts, Answer, Bool, Caller, Commits, Deployment, Effect, Entry, FinMap, Going, Grown, GrownAt, Instance, IntentId, IsIn, Kind, Leads, List, Move, None, NotBefore, OnItem, Option, Outcome, Place, PlainState, Read, Runs, Some, Start, Step, AbortedTx, CommittedTx, Value, [], after, answer_after, answer_caller, answer_of, answered, ap, append-nil, arith, callee_of, calls_at, effect_of, ended, false, give, id_cmp, if◌then◌else◌, inl, inr, is_holder, is_older, is_some, is_waiting, item_cmp, item_in, item_of, kind_of, length, length-append, new_instance, op_of, opened, operated, option_and_then, refl, root_of, run_from, set_if, sets, start, step_by, subst, suc, sym, true, tx_begun, value_at, waits_at, with_instance, zero, ℕ, ◌++◌, ◌∙◌, ◌∷◌, ◌≡◌}
use Rattle.beldi_plain_laws.proofs.EntryLaws.{Started, Stepped, Did, did, read_is, absent, enabled_read, enabled_step, after_grows, run_grows, runs_on}
use Rattle.beldi_plain_laws.proofs.{Foreign.none_below, CallStack.line_opened, CallStack.in_line, Passes.front_there, Passes.moves_pass, Passes.first_passes, Passes.there_passes, Passes.opened_passes, WellFormed.WellFormedWith, Sound.by_entry, Maps.same_some, Maps.made_set, Maps.commutes, Maps.elsewhere, Maps.here, Transactions.committed, Transactions.aborted_so}
use Rattle.beldi_plain_laws.proofs.Names.map

-- ---- an instance that stands at a read
pub record StandsAtRead (d : Deployment) (p : PlainState) (i : IntentId) (a : Instance) : Type 0 where
  pub made : map.get p.made i ≡ Some a
  pub open_still : a.outcome ≡ None
  pub kind : kind_of i (effect_of d a) ≡ Kind.Read

not_longer : (a : Instance) (x : Answer) → answered a x ≡ a → ⊥
not_longer a x h = let n = length-append a.answers (x ∷ []) in let m = ap (λ (q : Instance). length q.answers) h in omega (arith, n, m)

abbrev with_items : FinMap item_cmp Value → FinMap id_cmp Instance → PlainState
with_items m f = record { items = m; made = f }

-- another instance's step does not see the answer
operation_passes : (p : PlainState) (i j : IntentId) (x y : Instance) (o : Option OnItem) → (i ≡ j → ⊥) → operated (with_instance p i x) j y o ≡ with_instance (operated p j y o) i x
operation_passes p i j x y None apart = refl
operation_passes p i j x y (Some o) apart =
    let w = value_at p (item_in y.func o) in
    ap (with_items (set_if p.items (item_in y.func o) (sets o.does w))) (commutes p.made i j x (answered y (answer_after o.does w)) apart)

-- nor does it reach the instance, which was there before and stands as it stood
module _ (p : PlainState) (i : IntentId) (a x : Instance) (made : map.get p.made i ≡ Some a) where
  give_passes : (k : IntentId) (v : Answer) (o : Option Instance) → (i ≡ k → ⊥) → give (with_instance p i x) k v o ≡ with_instance (give p k v o) i x
  give_passes k v None apart = refl
  give_passes k v (Some y) apart = ap (with_items p.items) (commutes p.made i k x (answered y v) apart)

  not_given : (k : IntentId) (v : Answer) → map.get (give p k v (map.get p.made k)).made i ≡ Some a → i ≡ k → ⊥
  not_given k v stays same =
      let given : map.get (give p i v (map.get p.made i)).made i ≡ Some (answered a v) = ap (λ o. map.get (give p i v o).made i) made ∙ here p.made i (answered a v) in
      not_longer a v (same_some (sym given ∙ ap (λ j. map.get (give p j v (map.get p.made j)).made i) same ∙ stays))

  caller_passes : (c : Option Caller) (o : Outcome) → map.get (answer_caller p c o).made i ≡ Some a → answer_caller (with_instance p i x) c o ≡ with_instance (answer_caller p c o) i x
  caller_passes None o stays = refl
  caller_passes (Some c) o stays = by_waits c.waits c.place.intent (answer_of o) stays
    where
      by_waits : (b : Bool) (k : IntentId) (v : Answer) → map.get (if b then give p k v (map.get p.made k) else p).made i ≡ Some a
          → (if b then give (with_instance p i x) k v (map.get (map.insert p.made i x) k) else with_instance p i x) ≡ with_instance (if b then give p k v (map.get p.made k) else p) i x
      by_waits false k v stays = refl
      by_waits true k v stays =
          let apart = not_given k v stays in
          ap (give (with_instance p i x) k v) (elsewhere p.made i k x apart) ∙ give_passes k v (map.get p.made k) apart

  callee_apart : (j : IntentId) (y : Instance) → is_some (map.get p.made (callee_of j y)) ≡ false → i ≡ callee_of j y → ⊥
  callee_apart j y free same = let clash = sym made ∙ ap (map.get p.made) same ∙ absent (map.get p.made (callee_of j y)) free in cc

  free_passes : (j : IntentId) (y : Instance) (e : Effect) → waits_at p.made j y e ≡ false → waits_at (map.insert p.made i x) j y e ≡ false
  free_passes j y (Effect.Call f v) free = ap is_some (elsewhere p.made i (callee_of j y) x (callee_apart j y free)) ∙ free
  free_passes j y (Effect.Async f v) free = ap is_some (elsewhere p.made i (callee_of j y) x (callee_apart j y free)) ∙ free
  free_passes j y e free = refl

step_passes : (p : PlainState) (i j : IntentId) (a x y : Instance) (e : Effect) → map.get p.made i ≡ Some a → (i ≡ j → ⊥) → waits_at p.made j y e ≡ false → map.get (step_by p j y e).made i ≡ Some a
    → step_by (with_instance p i x) j y e ≡ with_instance (step_by p j y e) i x
step_passes p i j a x y (Effect.Read t k) made apart free stays = ap (with_items p.items) (commutes p.made i j x (answered y (Answer.Value (value_at p (item_of y t k)))) apart)
step_passes p i j a x y (Effect.Call f v) made apart free stays = ap (with_items p.items) (commutes p.made i (callee_of j y) x (new_instance f v (Some (calls_at j y true))) (callee_apart p i a x made j y free))
step_passes p i j a x y (Effect.Async f v) made apart free stays =
    let s = new_instance f v (Some (calls_at j y false)) in
    ap (λ g. with_items p.items (map.insert g j (answered y Answer.Done))) (commutes p.made i (callee_of j y) x s (callee_apart p i a x made j y free))
    ∙ ap (with_items p.items) (commutes (map.insert p.made (callee_of j y) s) i j x (answered y Answer.Done) apart)
step_passes p i j a x y (Effect.Return o) made apart free stays =
    ap (λ f. answer_caller (with_items p.items f) y.parent o) (commutes p.made i j x (ended y o) apart)
    ∙ caller_passes (with_instance p j (ended y o)) i a x (elsewhere p.made j i (ended y o) (λ s. apart (sym s)) ∙ made) y.parent o stays
step_passes p i j a x y e made apart free stays = operation_passes p i j x y (op_of e) apart

-- where the instance stands after an entry as it stood, and the entry comes after its answer
module _ (d : Deployment) (p q : PlainState) (i : IntentId) (a : Instance) (v : Answer) (well_formed : WellFormedWith d None p.made) (stands : StandsAtRead d p i a) (stays : map.get q.made i ≡ Some a) where
  -- it is not the instance's own: a read would have answered it, and it makes no other step
  own_read : map.get (step_by p i a (effect_of d a)).made i ≡ Some a → ⊥
  own_read h =
      let r = read_is i (effect_of d a) stands.kind in
      let x = Answer.Value (value_at p (item_of a r.0 r.1)) in
      not_longer a x (same_some (sym (here p.made i (answered a x)) ∙ ap (λ e. map.get (step_by p i a e).made i) (sym r.2) ∙ h))

  own : (b : Kind) (s : Stepped d p i b q) → ⊥
  own b s =
      let same : s.instance ≡ a = same_some (sym s.made ∙ stands.made) in
      own_read (ap (λ (r : PlainState). map.get r.made i) (ap (λ x. step_by p i x (effect_of d x)) (sym same) ∙ s.leads) ∙ stays)

  pub apart : (j : IntentId) (b : Kind) → Stepped d p j b q → i ≡ j → ⊥
  apart j b s same = own b (subst (λ k. Stepped d p k b q) (sym same) s)

  -- another instance's entry is enabled as before, and leads to the same with the answer
  made_there : (j : IntentId) (b : Kind) (s : Stepped d p j b q) → map.get (map.insert p.made i (answered a v)) j ≡ Some s.instance
  made_there j b s = elsewhere p.made i j (answered a v) (apart j b s) ∙ s.made

  free_there : (j : IntentId) (b : Kind) (s : Stepped d p j b q) → is_waiting d (with_instance p i (answered a v)) j s.instance ≡ false
  free_there j b s = free_passes p i a (answered a v) stands.made j s.instance (effect_of d s.instance) s.free

  leads_there : (j : IntentId) (b : Kind) (s : Stepped d p j b q) → step_by (with_instance p i (answered a v)) j s.instance (effect_of d s.instance) ≡ with_instance q i (answered a v)
  leads_there j b s =
      step_passes p i j a (answered a v) s.instance (effect_of d s.instance) stands.made (apart j b s) s.free (ap (λ (r : PlainState). map.get r.made i) s.leads ∙ stays)
      ∙ ap (λ r. with_instance r i (answered a v)) s.leads

  start_there : (t f : ℕ) (w : Value) → Started p (suc t) f w q → start (with_instance p i (answered a v)) (suc t) f w (map.get (map.insert p.made i (answered a v)) (root_of (suc t))) ≡ Some (with_instance q i (answered a v))
  start_there t f w s =
      let other : i ≡ root_of (suc t) → ⊥ = λ same. let c = sym s.absent ∙ ap (map.get p.made) (sym same) ∙ stands.made in cc in
      ap (start (with_instance p i (answered a v)) (suc t) f w) (elsewhere p.made i (root_of (suc t)) (answered a v) other ∙ s.absent)
      ∙ ap (λ (f' : FinMap id_cmp Instance). Some (record p { made = f' })) (commutes p.made i (root_of (suc t)) (answered a v) (new_instance f w None) other)
      ∙ ap (λ r. Some (with_instance r i (answered a v))) s.leads

  -- nor is a transaction its own, as it stands at no begin; nor is it in one of another, and that goes the same way
  pub begin_apart : (j : IntentId) (z : Instance) → map.get p.made j ≡ Some z → effect_of d z ≡ Effect.Begin → i ≡ j → ⊥
  begin_apart j z made begins same =
      let own : z ≡ a = same_some (sym made ∙ ap (map.get p.made) (sym same) ∙ stands.made) in
      let c : Kind.Inside ≡ Kind.Read = ap (kind_of i) (sym begins ∙ ap (effect_of d) own) ∙ stands.kind in cc

  pub out_of : (j : IntentId) (z : Instance) → map.get p.made j ≡ Some z → effect_of d z ≡ Effect.Begin → IsIn (tx_begun j z) i → ⊥
  out_of j z made begins (inl own) = begin_apart j z made begins own
  out_of j z made begins (inr b) = let c = sym stands.made ∙ none_below d p.made well_formed j z i made b in cc

  pub set_there : (j : IntentId) (z : Instance) (s : PlainState) → (i ≡ j → ⊥) → q ≡ with_instance s j z → with_instance q i (answered a v) ≡ with_instance (with_instance s i (answered a v)) j z
  set_there j z s other is = ap (λ r. with_instance r i (answered a v)) is ∙ ap (with_items s.items) (sym (commutes s.made i j (answered a v) z other))

  -- what led from its Begin leads on there
  leads_there_on : (j : IntentId) (z : Instance) (ms : List Move) (l : Going) → map.get p.made j ≡ Some z → z.outcome ≡ None → effect_of d z ≡ Effect.Begin → Leads d (tx_begun j z) (opened p j z) ms l
      → Leads d (tx_begun j z) (opened (with_instance p i (answered a v)) j z) ms (record { state = with_instance l.state i (answered a v); active = l.active })
  leads_there_on j z ms l made none begins leads =
      subst (λ s. Leads d (tx_begun j z) s ms (record { state = with_instance l.state i (answered a v); active = l.active })) (opened_passes p j i z (answered a v) (begin_apart j z made begins))
      (moves_pass d (tx_begun j z) i (answered a v) (out_of j z made begins) (opened p j z) ms l (line_opened d p j z none) leads)

  pub runs_there : (j : IntentId) (z : Instance) (ms : List Move) (l : Going) → Runs d p j z ms l → Runs d (with_instance p i (answered a v)) j z ms (record { state = with_instance l.state i (answered a v); active = l.active })
  runs_there j z ms l h = record {
    made = elsewhere p.made i j (answered a v) (begin_apart j z h.made h.begins) ∙ h.made;
    open_still = h.open_still;
    begins = h.begins;
    leads = leads_there_on j z ms l h.made h.open_still h.begins h.leads;
  }

  abbrev pub commit_there : (j : IntentId) → Commits d p j q → Commits d (with_instance p i (answered a v)) j (with_instance q i (answered a v))
  commit_there j h =
      let z = h.instance in
      let t = tx_begun j z in
      record {
        instance = z;
        moves = h.moves;
        last = record { state = with_instance h.last.state i (answered a v); active = h.last.active };
        runs = runs_there j z h.moves h.last h.runs;
        plainly = h.plainly;
        ends = record { owner = h.ends.owner; stands = record { instance = h.ends.stands.instance; made = front_there d t i (answered a v) (out_of j z h.runs.made h.runs.begins) h.last (in_line d t (opened p j z) h.moves h.last (line_opened d p j z h.runs.open_still) h.runs.leads) ∙ h.ends.stands.made; effect = h.ends.stands.effect } };
        is = set_there j (answered h.ends.stands.instance Answer.Done) h.last.state (begin_apart j z h.runs.made h.runs.begins) h.is;
      }

  pub holder_there : (j : IntentId) (o : Option IntentId) → is_holder p j o ≡ true → is_holder (with_instance p i (answered a v)) j o ≡ true
  holder_there j None h = h
  holder_there j (Some k) h = ap (λ b. b && is_older k j) (made_set p.made i (answered a v) (λ l u. is_some u ≡ is_some (map.get p.made l)) (sym (ap is_some stands.made)) (λ l. refl) k) ∙ h

  abbrev pub abort_there : (j : IntentId) (place : Place) (holder : Option IntentId) → Aborts d p j place holder q → Aborts d (with_instance p i (answered a v)) j place holder (with_instance q i (answered a v))
  abort_there j place holder h =
      let z = h.instance in
      let t = tx_begun j z in
      let x = answered a v in
      let out = out_of j z h.runs.made h.runs.begins in
      let start = line_opened d p j z h.runs.open_still in
      let middle = in_line d t (opened p j z) h.before h.there start h.runs.leads in
      record {
        instance = z;
        before = h.before;
        there = record { state = with_instance h.there.state i x; active = h.there.active };
        runs = runs_there j z h.before h.there h.runs;
        plainly = h.plainly;
        first = subst (λ s. NotBefore d t place s h.before) (opened_passes p j i z x (begin_apart j z h.runs.made h.runs.begins)) (first_passes d t i x out place (opened p j z) h.before h.there start h.runs.leads h.first);
        stands = there_passes d t i x out place h.there middle h.stands;
        older = holder_there j holder h.older;
        since = h.since;
        last = record { state = with_instance h.last.state i x; active = h.last.active };
        leads = moves_pass d t i x out h.there h.since h.last middle h.leads;
        falls = h.falls;
        ends = record { owner = h.ends.owner; stands = record { instance = h.ends.stands.instance; made = front_there d t i x out h.last (in_line d t h.there h.since h.last middle h.leads) ∙ h.ends.stands.made; effect = h.ends.stands.effect } };
        is = set_there j (answered h.ends.stands.instance Answer.Done) p (begin_apart j z h.runs.made h.runs.begins) h.is;
      }

  passes_did : (e : Entry) → after d p e ≡ Some q → Did d p e q → after d (with_instance p i (answered a v)) e ≡ Some (with_instance q i (answered a v))
  passes_did (Start zero f w) h s = cc
  passes_did (Start (suc t) f w) h s = start_there t f w s
  passes_did (Read j k) h s = enabled_read d (with_instance p i (answered a v)) j s.instance (made_there j Kind.Read s) s.open_still (free_there j Kind.Read s) k s.kind ∙ ap (λ r. Some r) (leads_there j Kind.Read s)
  passes_did (Step j) h s = enabled_step d (with_instance p i (answered a v)) j s.instance (made_there j Kind.Change s) s.open_still (free_there j Kind.Change s) s.kind ∙ ap (λ r. Some r) (leads_there j Kind.Change s)
  passes_did (CommittedTx j) h s = committed d j (with_instance p i (answered a v)) (with_instance q i (answered a v)) (commit_there j s)
  passes_did (AbortedTx j place holder) h s = aborted_so d j place holder (with_instance p i (answered a v)) (with_instance q i (answered a v)) (abort_there j place holder s)

  pub passes : (e : Entry) → after d p e ≡ Some q → after d (with_instance p i (answered a v)) e ≡ Some (with_instance q i (answered a v))
  passes e h = passes_did e h (did d p e q h)

-- ---- an instance that has gone on and comes back to what it was has not moved
no_later : (xs ys zs : List Answer) (l m : List Answer) → xs ++ l ≡ ys → ys ++ m ≡ xs → ys ≡ xs
no_later xs ys zs l m g h = by_list l g (let n = length-append xs l in let k = length-append ys m in let e = ap length g in let f = ap length h in omega arith)
  where
    by_list : (l : List Answer) → xs ++ l ≡ ys → length l ≡ 0 → ys ≡ xs
    by_list [] g n = sym g ∙ append-nil xs
    by_list (x ∷ l) g n = absurd (omega (arith, n))

none_before : (o u : Option Outcome) → ((x : Outcome) → o ≡ Some x → u ≡ Some x) → u ≡ None → o ≡ None
none_before None u h is = refl
none_before (Some x) u h is = let g = sym is ∙ h x refl in cc

same_instance : (a b : Instance) → a.func ≡ b.func → a.args ≡ b.args → a.parent ≡ b.parent → a.enclosing ≡ b.enclosing → a.answers ≡ b.answers → a.outcome ≡ b.outcome → a ≡ b
same_instance a b f g c w h o = λ i. record { func = f i; args = g i; parent = c i; enclosing = w i; answers = h i; outcome = o i }

pub unmoved : (a : Instance) (o : Option Instance) → a.outcome ≡ None → GrownAt (Some a) o → GrownAt o (Some a) → o ≡ Some a
unmoved a None none g h = absurd g
unmoved a (Some b) none g h = ap (λ x. Some x) (same_instance b a g.func g.args g.parent g.enclosing (no_later a.answers b.answers [] g.later h.later g.more h.more) (none_before b.outcome a.outcome h.over none ∙ sym none))

-- an instance that has gone on with no answer more, and has no outcome, is as it was
pub not_moved : (o u : Option Instance) (i j : Instance) → o ≡ Some i → u ≡ Some j → GrownAt o u → i.answers ≡ j.answers → j.outcome ≡ None → i ≡ j
not_moved o u i j was is g same none =
    let h : Grown i j = subst (λ z. GrownAt (Some i) z) is (subst (λ z. GrownAt z u) was g) in
    same_instance i j (sym h.func) (sym h.args) (sym h.parent) (sym h.enclosing) same (none_before i.outcome j.outcome h.over none ∙ sym none)

-- ---- a read passes all entries that leave its instance as it is
-- who still stands at a read in the end does so after the first of them
pub stands_next : (d : Deployment) (p q r : PlainState) (e : Entry) (es : List Entry) (i : IntentId) (a : Instance) → StandsAtRead d p i a → map.get q.made i ≡ Some a → after d p e ≡ Some r → run_from d r es ≡ Some q → StandsAtRead d r i a
stands_next d p q r e es i a stands stays step is =
    let before = subst (λ o. GrownAt o (map.get r.made i)) stands.made (after_grows d p e r step i) in
    let later = subst (λ o. GrownAt (map.get r.made i) o) stays (run_grows d r es q is i) in
    record { made = unmoved a (map.get r.made i) stands.open_still before later; open_still = stands.open_still; kind = stands.kind }

pub passes_all : (d : Deployment) (p q : PlainState) (es : List Entry) (i : IntentId) (a : Instance) (v : Answer) → WellFormedWith d None p.made → StandsAtRead d p i a → map.get q.made i ≡ Some a
    → run_from d p es ≡ Some q → run_from d (with_instance p i (answered a v)) es ≡ Some (with_instance q i (answered a v))
passes_all d p q [] i a v well_formed stands stays h = ap (λ r. Some (with_instance r i (answered a v))) (same_some h)
passes_all d p q (e ∷ es) i a v well_formed stands stays h = by_option (after d p e) refl h (λ r. passes_all d r q es i a v)
  where
    by_option : (o : Option PlainState) → after d p e ≡ o → option_and_then (λ r. run_from d r es) o ≡ Some q
        → ((r : PlainState) → WellFormedWith d None r.made → StandsAtRead d r i a → map.get q.made i ≡ Some a → run_from d r es ≡ Some q → run_from d (with_instance r i (answered a v)) es ≡ Some (with_instance q i (answered a v)))
        → option_and_then (λ r. run_from d r es) (after d (with_instance p i (answered a v)) e) ≡ Some (with_instance q i (answered a v))
    by_option None step is rest = cc
    by_option (Some r) step is rest =
        let there = stands_next d p q r e es i a stands stays step is in
        ap (option_and_then (λ s. run_from d s es)) (passes d p r i a v well_formed stands there.made e step) ∙ rest r (by_entry d p e r (did d p e r step) well_formed) there stays is

-- ---- the read itself
-- put where the instance stands at it, with what comes between and leaves the instance as it is
pub put_late : (d : Deployment) (p q r : PlainState) (es fs : List Entry) (i : IntentId) (s : ℕ) (a : Instance) (t : ℕ) (k : List ℕ) (v : Value)
    → WellFormedWith d None q.made → run_from d p es ≡ Some q → map.get q.made i ≡ Some a → a.outcome ≡ None → effect_of d a ≡ Effect.Read t k → value_at q (item_of a t k) ≡ v
    → run_from d q fs ≡ Some r → map.get r.made i ≡ Some a
    → run_from d p (es ++ Read i s ∷ fs) ≡ Some (with_instance r i (answered a (Answer.Value v)))
put_late d p q r es fs i s a t k v well_formed before made none reads_it is behind stays =
    let kind : kind_of i (effect_of d a) ≡ Kind.Read = ap (kind_of i) reads_it in
    let stands : StandsAtRead d q i a = record { made = made; open_still = none; kind = kind } in
    let leads : step_by q i a (effect_of d a) ≡ with_instance q i (answered a (Answer.Value v)) = ap (step_by q i a) reads_it ∙ ap (λ w. with_instance q i (answered a (Answer.Value w))) is in
    runs_on d p q es (Read i s ∷ fs) before
    ∙ ap (option_and_then (λ x. run_from d x fs)) (enabled_read d q i a made none (ap (waits_at q.made i a) reads_it) s kind ∙ ap (λ x. Some x) leads)
    ∙ passes_all d q r fs i a (Answer.Value v) well_formed stands stays behind
