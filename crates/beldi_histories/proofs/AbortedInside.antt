-- An open transaction falls at most once: until then its moves are plain steps, and from then on it goes up, to the End without commit
-- of its owner. What its moves touched it got, and what they wrote has a shadow.
use Rattle.beldi_plain.specs.{Moves.after_move, Moves.Leads, Transaction.is_owner}
use Rattle.beldi_plain_laws.proofs.GoingOn.{IsSound}
use Rattle.beldi_histories.proofs.Names.{AllPlain, AllSound, Answer, Answers, Bool, Cause, Deployment, Effect, FinMap, Going, GoingWellFormed, Grown, GrownAt, Instance, IntentId, IsAnswer, IsIn, Item, Items, CallStack, List, Move, MoveIs, None, Option, Outcome, WellFormedHistory, WellFormedWith, Some, TouchedIn, TxId, Value, WrittenIn, [], aborted, all_in, answer_inside, answer_of, answered, answered_plainly, answers, ap, append-nil, append_assoc, calls, dies_at, effect_after, effect_of, ended, false, fell, going_moved, here, id_cmp, id_total, if◌then◌else◌, inl, inr, is_edge, is_eq, is_older, is_plainly, is_some, last_answer, length, line_moved, line_tx, move_is, mover, moves_grow, next, place_of, plain, plainly_edge, refl, returned, returns, same_some, well_formed_in, subst, sym, tied_itself, top, touched, touched_at, touched_item, true, tx_after, tx_now, written_at, written_on, ℕ, ◌++◌, ◌∙◌, ◌∷◌, ◌≡◌, ◌⊎◌}
use Rattle.beldi_histories.proofs.{Answers.take_front, Answers.get_next, Phases.abort_ends, Phases.abort_returns, Behind.death_of}
use Rattle.beldi_histories.proofs.Names.map

-- ---- what an instance is later, by what it was before an answer
abbrev pub later_by : Instance → Answer → List Answer → Option Outcome → Instance
later_by z a later o = record z { answers = z.answers ++ a ∷ later; outcome = o }

pub later_is : (z y : Instance) (a : Answer) (g : Grown (answered z a) y) → y ≡ later_by z a g.later y.outcome
later_is z y a g i = record { func = g.func i; args = g.args i; parent = g.parent i; enclosing = g.enclosing i; answers = (sym g.more ∙ append_assoc z.answers (a ∷ []) g.later) i; outcome = y.outcome }

-- its answer fits where it stood
pub answered_fits : (d : Deployment) (id : IntentId) (z y : Instance) (a : Answer) → Grown (answered z a) y → WellFormedHistory d id y → IsAnswer (place_of id (length z.answers)) (tx_now d id z) (effect_of d z) a
answered_fits d id z y a g well_formed =
    let s = subst (WellFormedHistory d id) (later_is z y a g) well_formed in
    subst (λ ts. IsAnswer (place_of id (length z.answers)) (tx_after d id z ts) (effect_after d z ts) a) (take_front z.answers (a ∷ g.later)) (s.past (length z.answers) a (get_next z.answers g.later a))

grown_itself : (z : Instance) → Grown z z
grown_itself z = record { func = refl; args = refl; parent = refl; enclosing = refl; later = []; more = append-nil z.answers; over = λ u e. e }

grown_at : (z : Instance) (o : Option Instance) → GrownAt (Some z) o → (y : Instance) × (o ≡ Some y) × Grown z y
grown_at z None g = absurd g
grown_at z (Some y) g = (y, refl, g)

pub last_is : (xs : List Answer) (a : Answer) → last_answer (xs ++ a ∷ []) ≡ Some a
last_is [] a = refl
last_is (x ∷ []) a = refl
last_is (x ∷ y ∷ ys) a = last_is (y ∷ ys) a

module _ (d : Deployment) (t : TxId) where
  -- ---- upwards: the owner was told so, and is at its End without commit, or who can step returns it
  abbrev pub Rises : Cause → IntentId → Instance → Type 0
  Rises c i z = ((i ≡ t.intent) × (effect_of d z ≡ Effect.End false) × (last_answer z.answers ≡ Some (Answer.Aborted c))) ⊎ (effect_of d z ≡ Effect.Return (Outcome.Aborted c))

  pub record Up (c : Cause) (s : Going) : Type 0 where
    pub instance : Instance
    pub made : map.get s.state.made s.active ≡ Some instance
    pub rises : Rises c s.active instance

  inner_well_formed : (f : FinMap id_cmp Instance) → WellFormedWith d (Some t) f → (i : IntentId) (z : Instance) → map.get f i ≡ Some z → WellFormedHistory d i z
  inner_well_formed f well_formed i z made = let s = well_formed_in d (Some t) f well_formed i z made in record { past = s.past; over = s.over }

  -- who is answered by an abort goes up
  up_at : (f : FinMap id_cmp Instance) → WellFormedWith d (Some t) f → (i : IntentId) (z : Instance) → CallStack d t f i → map.get f i ≡ Some z → (c : Cause) → is_edge (effect_of d z) ≡ false
      → IsAnswer (place_of i (length z.answers)) (tx_now d i z) (effect_of d z) (Answer.Aborted c) → Rises c i (answered z (Answer.Aborted c))
  up_at f well_formed i z (top _ h) made c edge fits =
      let begun = (well_formed_in d (Some t) f well_formed i z made).begun ∙ ap (λ b. if b then Some t.begin else None) (ap (is_owner t) h.own ∙ ap is_eq (tied_itself id_total t.intent)) in
      inl (h.own, abort_ends d z z.answers c (ap is_some begun) (λ b e. let clash = sym edge ∙ ap is_edge e in cc), last_is z.answers (Answer.Aborted c))
  up_at f well_formed i z (next k _ l h) made c edge fits =
      let within : z.enclosing ≡ Some t = ap (λ (x : Instance). x.enclosing) (same_some (sym made ∙ h.made)) ∙ h.enclosing in
      inr (abort_returns d i z (inner_well_formed f well_formed i z made) c fits t within)

module _ (d : Deployment) (t : TxId) (q : Instance) (outside : q.enclosing ≡ None) (func : q.func ≡ t.func) where
  -- .. and goes on so
  up_moved : (c : Cause) (m : Move) (s r : Going) → GoingWellFormed d t q s → after_move d t m s ≡ Some r → Up d t c s → (m ≡ plain) × Up d t c r
  up_moved c m s r h step up = by_kind (move_is d t m s z r up.made step) up.rises
    where
      z : Instance
      z = up.instance

      by_kind : MoveIs d t m s r z → Rises d t c s.active z → (m ≡ plain) × Up d t c r
      by_kind (answers a) (inl e) = let clash = sym (answered_plainly s.active s.state.items z (effect_of d z) m a.answer a.gives_it) ∙ ap is_plainly e.1 in cc
      by_kind (answers a) (inr e) = let clash = sym (answered_plainly s.active s.state.items z (effect_of d z) m a.answer a.gives_it) ∙ ap is_plainly e in cc
      by_kind (calls k) (inl e) = let clash = sym k.call ∙ e.1 in cc
      by_kind (calls k) (inr e) = let clash = sym k.call ∙ e in cc
      by_kind (returns e) (inl o) = let clash = sym e.returns ∙ o.1 in cc
      by_kind (returns e) (inr o) =
          let w = returned d t m s r z up.made h.line e in
          let same : e.outcome ≡ Outcome.Aborted c = let both = sym e.returns ∙ o in cc in
          let y = w.member.waiter in
          let a = Answer.Aborted c in
          let is : r ≡ record { state = record { items = s.state.items; made = map.insert (map.insert s.state.made s.active (ended z e.outcome)) w.caller (answered y a) }; active = w.caller } =
          w.is ∙ ap (λ b. record { state = record { items = s.state.items; made = map.insert (map.insert s.state.made s.active (ended z e.outcome)) w.caller (answered y b) }; active = w.caller }) (ap answer_of same) in (
            e.plainly,
            subst (Up d t c) (sym is) (record {
              instance = answered y a;
              made = here (map.insert s.state.made s.active (ended z e.outcome)) w.caller (answered y a);
              rises = up_at d t s.state.made h.well_formed w.caller y w.line w.member.waits c (ap is_edge w.member.called) (subst (λ x. IsAnswer (place_of w.caller (length y.answers)) (tx_now d w.caller y) x a) (sym w.member.called) tt);
            }),
          )

  ups : (c : Cause) (s : Going) (moves : List Move) (l : Going) → GoingWellFormed d t q s → AllSound t moves → Leads d t s moves l → Up d t c s → AllPlain moves × Up d t c l
  ups c s [] l h older leads up = (tt, subst (Up d t c) leads up)
  ups c s (m ∷ ms) l h older leads up =
      let one = up_moved c m s leads.0 h leads.1 up in
      let rest = ups c leads.0 ms l (going_moved d t q m s leads.0 outside func h older.0 leads.1) older.1 leads.2 one.1 in
      ((one.0, rest.0), rest.1)

  -- ---- what was answered, as it is at the end
  pub record Made (l : Going) (id : IntentId) (before : Instance) (a : Answer) : Type 0 where
    pub member : IsIn t id
    pub inside : tx_now d id before ≡ Some t
    pub instance : Instance
    pub made : map.get l.state.made id ≡ Some instance
    pub grown : Grown (answered before a) instance

  made_later : (s r l : Going) (moves : List Move) → GoingWellFormed d t q s → (m : Move) → after_move d t m s ≡ Some r → Leads d t r moves l → (z : Instance) → map.get s.state.made s.active ≡ Some z → (a : Answers d t m s r z) → is_edge (effect_of d z) ≡ false → Made l s.active z a.answer
  made_later s r l moves h m step leads z made a edge =
      let next = answered z a.answer in
      let there : map.get r.state.made s.active ≡ Some next = ap (λ (x : Going). map.get x.state.made s.active) a.is ∙ here s.state.made s.active next in
      let y = grown_at next (map.get l.state.made s.active) (subst (λ o. GrownAt o (map.get l.state.made s.active)) there (moves_grow d t r moves l (line_moved d t m s r h.line step) leads s.active)) in
      record { member = all_in d t s.state.made s.active h.line; inside = line_tx d t q s.state.made h.well_formed h.owner outside func s.active z h.line made edge; instance = y.0; made = y.1; grown = y.2 }

  -- ---- who lets one die is older: so it is known
  sound_at : (m : Move) (s r l : Going) (ms : List Move) → GoingWellFormed d t q s → after_move d t m s ≡ Some r → Leads d t r ms l → ((i : IntentId) (y : Instance) → IsIn t i → map.get l.state.made i ≡ Some y → WellFormedHistory d i y) → IsSound t m
  sound_at plain s r l ms h step leads well_formed = tt
  sound_at (fell None) s r l ms h step leads well_formed = tt
  sound_at (fell (Some u)) s r l ms h step leads well_formed = let z = mover d t (fell (Some u)) s r step in by_kind z.0 z.1 (move_is d t (fell (Some u)) s z.0 r z.1 step)
    where
      is_death : (i : IntentId) (z : Instance) (e : Effect) → is_some (touched e) ≡ true → IsAnswer (place_of i (length z.answers)) (Some t) e (aborted i z (Some u)) → is_older u t.intent ≡ true
      is_death i z e on fits = let w = death_of (place_of i (length z.answers)) t e _ on fits in ap (λ x. is_older x t.intent) (same_some (ap (λ (c : Cause). c.holder) w.cause)) ∙ w.older

      by_dies : (z : Instance) (b : Bool) → dies_at (Some u) (effect_of d z) ≡ b → (a : Answer) → (if b then Some (aborted s.active z (Some u)) else None) ≡ Some a → IsAnswer (place_of s.active (length z.answers)) (Some t) (effect_of d z) a → is_older u t.intent ≡ true
      by_dies z true dies a gives fits = is_death s.active z (effect_of d z) dies (subst (IsAnswer (place_of s.active (length z.answers)) (Some t) (effect_of d z)) (sym (same_some gives)) fits)
      by_dies z false dies a gives fits = cc

      by_kind : (z : Instance) → map.get s.state.made s.active ≡ Some z → MoveIs d t (fell (Some u)) s r z → is_older u t.intent ≡ true
      by_kind z made (answers a) =
          let edge = plainly_edge (effect_of d z) (answered_plainly s.active s.state.items z (effect_of d z) (fell (Some u)) a.answer a.gives_it) in
          let w = made_later s r l ms h (fell (Some u)) step leads z made a edge in
          let fits = answered_fits d s.active z w.instance a.answer w.grown (well_formed s.active w.instance w.member w.made) in
          by_dies z (dies_at (Some u) (effect_of d z)) refl a.answer a.gives_it (subst (λ x. IsAnswer (place_of s.active (length z.answers)) x (effect_of d z) a.answer) w.inside fits)
      by_kind z made (calls c) = let clash = c.plainly in cc
      by_kind z made (returns e) = let clash = e.plainly in cc

  pub sound : (s : Going) (moves : List Move) (l : Going) → GoingWellFormed d t q s → Leads d t s moves l → ((i : IntentId) (y : Instance) → IsIn t i → map.get l.state.made i ≡ Some y → WellFormedHistory d i y) → AllSound t moves
  sound s [] l h leads well_formed = tt
  sound s (m ∷ ms) l h leads well_formed =
      let one = sound_at m s leads.0 l ms h leads.1 leads.2 well_formed in
      (one, sound leads.0 ms l (going_moved d t q m s leads.0 outside func h one leads.1) leads.2 well_formed)

  -- ---- the fall
  abbrev pub cause_of : IntentId → Instance → Option IntentId → Cause
  cause_of id z o = record { place = place_of id (length z.answers); holder = o }

  pub record Fell (s : Going) (moves : List Move) (l : Going) : Type 0 where
    pub before : List Move
    pub there : Going
    pub holder : Option IntentId
    pub since : List Move
    pub whole : moves ≡ before ++ fell holder ∷ since
    pub plainly : AllPlain before
    pub upwards : AllPlain since
    pub to : Leads d t s before there
    pub parent : Leads d t there (fell holder ∷ since) l
    -- who could step there was aborted, and the owner is told so
    pub faller : Instance
    pub made : map.get there.state.made there.active ≡ Some faller
    pub told : Made l there.active faller (aborted there.active faller holder)
    pub up : Up d t (cause_of there.active faller holder) l

  record Fallen (s r : Going) (o : Option IntentId) : Type 0 where
    faller : Instance
    made : map.get s.state.made s.active ≡ Some faller
    edge : is_edge (effect_of d faller) ≡ false
    answered : Answers d t (fell o) s r faller
    same : answered.answer ≡ aborted s.active faller o
    up : Up d t (cause_of s.active faller o) r

  fallen : (o : Option IntentId) (s r : Going) → GoingWellFormed d t q s → GoingWellFormed d t q r → after_move d t (fell o) s ≡ Some r → Fallen s r o
  fallen o s r h after step = let z = mover d t (fell o) s r step in by_kind z.0 z.1 (move_is d t (fell o) s z.0 r z.1 step)
    where
      by_dies : (z : Instance) (b : Bool) (a : Answer) → (if b then Some (aborted s.active z o) else None) ≡ Some a → a ≡ aborted s.active z o
      by_dies z true a g = sym (same_some g)
      by_dies z false a g = cc

      by_kind : (z : Instance) → map.get s.state.made s.active ≡ Some z → MoveIs d t (fell o) s r z → Fallen s r o
      by_kind z made (answers a) =
          let edge = plainly_edge (effect_of d z) (answered_plainly s.active s.state.items z (effect_of d z) (fell o) a.answer a.gives_it) in
          let c = cause_of s.active z o in
          let y = answered z (Answer.Aborted c) in
          let same : a.answer ≡ Answer.Aborted c = by_dies z (dies_at o (effect_of d z)) a.answer a.gives_it in
          let front : r.active ≡ s.active = ap (λ (x : Going). x.active) a.is in
          let there : map.get r.state.made s.active ≡ Some y = ap (λ (x : Going). map.get x.state.made s.active) a.is ∙ here s.state.made s.active (answered z a.answer) ∙ ap (λ b. Some (answered z b)) same in
          let fits = answered_fits d s.active z y (Answer.Aborted c) (grown_itself y) (inner_well_formed d t r.state.made after.well_formed s.active y there) in
          record {
            faller = z;
            made = made;
            edge = edge;
            answered = a;
            same = same;
            up = record {
              instance = y;
              made = ap (map.get r.state.made) front ∙ there;
              rises = subst (λ i. Rises d t c i y) (sym front) (up_at d t s.state.made h.well_formed s.active z h.line made c edge fits);
            };
          }
      by_kind z made (calls c) = let clash = c.plainly in cc
      by_kind z made (returns e) = let clash = e.plainly in cc

  pub falls : (s : Going) (moves : List Move) (l : Going) → GoingWellFormed d t q s → AllSound t moves → Leads d t s moves l → AllPlain moves ⊎ Fell s moves l
  falls s [] l h older leads = inl tt
  falls s (plain ∷ ms) l h older leads = elim (falls leads.0 ms l (going_moved d t q plain s leads.0 outside func h older.0 leads.1) older.1 leads.2) [
    | inl p ↦ inl (refl, p)
    | inr f ↦ inr (record {
      before = plain ∷ f.before;
      there = f.there;
      holder = f.holder;
      since = f.since;
      whole = ap (λ xs. plain ∷ xs) f.whole;
      plainly = (refl, f.plainly);
      upwards = f.upwards;
      to = (leads.0, leads.1, f.to);
      parent = f.parent;
      faller = f.faller;
      made = f.made;
      told = f.told;
      up = f.up;
    })
  ]
  falls s (fell o ∷ ms) l h older leads =
      let r = leads.0 in
      let after = going_moved d t q (fell o) s r outside func h older.0 leads.1 in
      let f = fallen o s r h after leads.1 in
      let rest = ups (cause_of s.active f.faller o) r ms l after older.1 leads.2 f.up in
      inr (record {
        before = [];
        there = s;
        holder = o;
        since = ms;
        whole = refl;
        plainly = tt;
        upwards = rest.0;
        to = refl;
        parent = leads;
        faller = f.faller;
        made = f.made;
        told = subst (Made l s.active f.faller) f.same (made_later s r l ms h (fell o) leads.1 leads.2 f.faller f.made f.answered f.edge);
        up = rest.1;
      })

  -- ---- what was touched, and what was written
  -- a plain answer to an effect on the item
  pub record MadeOn (on : Instance → Effect → Option Item) (x : Item) (l : Going) : Type 0 where
    pub id : IntentId
    pub before : Instance
    pub given : Answer
    pub step : Made l id before given
    pub items : Items
    pub plainly : answer_inside items before.func (effect_of d before) ≡ Some given
    pub item : on before (effect_of d before) ≡ Some x

  module _ (on : Instance → Effect → Option Item) (no_call : (z : Instance) (f : ℕ) (v : Value) → on z (Effect.Call f v) ≡ None) (no_return : (z : Instance) (o : Outcome) → on z (Effect.Return o) ≡ None) where
    made_on : (s r l : Going) (ms : List Move) (x : Item) → GoingWellFormed d t q s → after_move d t plain s ≡ Some r → Leads d t r ms l → ((z : Instance) → map.get s.state.made s.active ≡ Some z → on z (effect_of d z) ≡ Some x) → MadeOn on x l
    made_on s r l ms x h step leads is = let z = mover d t plain s r step in by_kind z.0 z.1 (move_is d t plain s z.0 r z.1 step)
      where
        by_kind : (z : Instance) → map.get s.state.made s.active ≡ Some z → MoveIs d t plain s r z → MadeOn on x l
        by_kind z made (answers a) =
            let edge = plainly_edge (effect_of d z) (answered_plainly s.active s.state.items z (effect_of d z) plain a.answer a.gives_it) in
            record { id = s.active; before = z; given = a.answer; step = made_later s r l ms h plain step leads z made a edge; items = s.state.items; plainly = a.gives_it; item = is z made }
        by_kind z made (calls c) = let clash = sym (is z made) ∙ ap (on z) c.call ∙ no_call z c.func c.args in cc
        by_kind z made (returns e) = let clash = sym (is z made) ∙ ap (on z) e.returns ∙ no_return z e.outcome in cc

  pub touched_made : (s : Going) (moves : List Move) (l : Going) (x : Item) → GoingWellFormed d t q s → AllSound t moves → Leads d t s moves l → TouchedIn d t s moves x → MadeOn touched_item x l
  touched_made s [] l x h older leads w = absurd w
  touched_made s (plain ∷ ms) l x h older leads (inl w) = made_on touched_item (λ z f v. refl) (λ z o. refl) s leads.0 l ms x h leads.1 leads.2 (λ z made. sym (ap (touched_at d) made) ∙ w)
  touched_made s (fell o ∷ ms) l x h older leads (inl w) = absurd w
  touched_made s (m ∷ ms) l x h older leads (inr w) = touched_made leads.0 ms l x (going_moved d t q m s leads.0 outside func h older.0 leads.1) older.1 leads.2 (subst (λ z. TouchedIn d t z ms x) (same_some (sym w.1 ∙ leads.1)) w.2)

  pub written_made : (s : Going) (moves : List Move) (l : Going) (x : Item) → GoingWellFormed d t q s → AllSound t moves → Leads d t s moves l → WrittenIn d t s moves x → MadeOn written_on x l
  written_made s [] l x h older leads w = absurd w
  written_made s (plain ∷ ms) l x h older leads (inl w) = made_on written_on (λ z f v. refl) (λ z o. refl) s leads.0 l ms x h leads.1 leads.2 (λ z made. sym (ap (written_at d) made) ∙ w)
  written_made s (fell o ∷ ms) l x h older leads (inl w) = absurd w
  written_made s (m ∷ ms) l x h older leads (inr w) = written_made leads.0 ms l x (going_moved d t q m s leads.0 outside func h older.0 leads.1) older.1 leads.2 (subst (λ z. WrittenIn d t z ms x) (same_some (sym w.1 ∙ leads.1)) w.2)
