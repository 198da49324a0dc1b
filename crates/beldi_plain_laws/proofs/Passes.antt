-- A transaction does not see an instance that is not in it: its moves lead on where that was set.
use Rattle.beldi_plain_laws.proofs.Names.{Deployment, Going, OnCallStack, Instance, IntentId, IsIn, Item, Leads, List, Move, NotBefore, Place, PlainState, Some, TouchedBy, TouchedIn, TxId, [], answer_of, answered, ap, callee_of, calls_at, effect_of, ended, fell, inl, inr, is_there, after_move, new_member, opened, plain, stands_there, subst, sym, touched_at, true, with_instance, ◌∙◌, ◌∷◌, ◌≡◌, Answer}
use Rattle.beldi_plain_laws.proofs.CallStack.{all_in, callee_in, line_moved, returned, answers_who_waits, shorter, not_longer}
use Rattle.beldi_plain_laws.proofs.Moved.{items_by, MoveIs, answers, calls, returns, move_is, mover, answers_so, calls_so, returns_so}
use Rattle.beldi_plain_laws.proofs.Maps.{same_some, elsewhere, commutes}
use Rattle.beldi_plain_laws.proofs.Names.map

module _ (d : Deployment) (t : TxId) (i : IntentId) (x : Instance) (out : IsIn t i → ⊥) where
  abbrev pub set_in : Going → Going
  set_in s = record { state = with_instance s.state i x; active = s.active }

  apart : (k : IntentId) → IsIn t k → i ≡ k → ⊥
  apart k in_it same = out (subst (IsIn t) (sym same) in_it)

  pub front_there : (s : Going) → OnCallStack d t s → map.get (set_in s).state.made s.active ≡ map.get s.state.made s.active
  front_there s line = elsewhere s.state.made i s.active x (apart s.active (all_in d t s.state.made s.active line))

  module _ (m : Move) (s r : Going) (line : OnCallStack d t s) (h : after_move d t m s ≡ Some r) where
    by_kind : (q : Instance) → map.get s.state.made s.active ≡ Some q → MoveIs d t m s r q → after_move d t m (set_in s) ≡ Some (set_in r)
    by_kind q made (answers a) =
        answers_so d t m (set_in s) q (front_there s line ∙ made) a.answer a.gives_it
        ∙ ap (λ g. Some (record { state = record { items = items_by s.state.items q (effect_of d q) m; made = g }; active = s.active })) (commutes s.state.made i s.active x (answered q a.answer) (apart s.active (all_in d t s.state.made s.active line)))
        ∙ ap (λ z. Some (set_in z)) (sym a.is)
    by_kind q made (calls c) =
        let k = callee_of s.active q in
        let other = apart k (callee_in d t s.state.made s.active q line made) in
        calls_so d t m (set_in s) q (front_there s line ∙ made) c.func c.args c.plainly c.call c.short (elsewhere s.state.made i k x other ∙ c.gone)
        ∙ ap (λ g. Some (record { state = record { items = s.state.items; made = g }; active = k })) (commutes s.state.made i k x (new_member t c.func c.args (calls_at s.active q true)) other)
        ∙ ap (λ z. Some (set_in z)) (sym c.is)
    by_kind q made (returns e) =
        let w = returned d t m s r q made line e in
        let over = ended q e.outcome in
        let last = answered w.member.waiter (answer_of e.outcome) in
        let here_apart = apart s.active (all_in d t s.state.made s.active line) in
        let there_apart = apart w.caller (all_in d t s.state.made w.caller w.line) in
        let f = map.insert s.state.made i x in
        let there : map.get (map.insert f s.active over) w.caller ≡ Some w.member.waiter =
        elsewhere f s.active w.caller over (λ same. not_longer w.caller s.active (shorter d t s.state.made w.caller s.active w.member) same) ∙ elsewhere s.state.made i w.caller x there_apart ∙ w.member.waits in
        returns_so d t m (set_in s) q (front_there s line ∙ made) e.outcome e.caller e.plainly e.returns e.not_owner e.parent
        ∙ (λ j. Some (record { state = answers_who_waits d t (set_in s) q e.outcome e.caller w.caller w.member.waiter w.call_is there j; active = (w.call_is j).place.intent }))
        ∙ ap (λ g. Some (record { state = record { items = s.state.items; made = map.insert g w.caller last }; active = w.caller })) (commutes s.state.made i s.active x over here_apart)
        ∙ ap (λ g. Some (record { state = record { items = s.state.items; made = g }; active = w.caller })) (commutes (map.insert s.state.made s.active over) i w.caller x last there_apart)
        ∙ ap (λ z. Some (set_in z)) (sym w.is)

    pub move_passes : after_move d t m (set_in s) ≡ Some (set_in r)
    move_passes = let q = mover d t m s r h in by_kind q.0 q.1 (move_is d t m s q.0 r q.1 h)

  pub moves_pass : (s : Going) (ms : List Move) (l : Going) → OnCallStack d t s → Leads d t s ms l → Leads d t (set_in s) ms (set_in l)
  moves_pass s [] l line leads = ap set_in leads
  moves_pass s (m ∷ ms) l line leads = (set_in leads.0, move_passes m s leads.0 line leads.1, moves_pass leads.0 ms l (line_moved d t m s leads.0 line leads.1) leads.2)

  place_passes : (place : Place) (s : Going) → OnCallStack d t s → is_there place (set_in s) ≡ is_there place s
  place_passes place s line = ap (stands_there place s) (front_there s line)

  pub first_passes : (place : Place) (s : Going) (ms : List Move) (l : Going) → OnCallStack d t s → Leads d t s ms l → NotBefore d t place s ms → NotBefore d t place (set_in s) ms
  first_passes place s [] l line leads first = tt
  first_passes place s (m ∷ ms) l line leads first = (
    place_passes place s line ∙ first.0,
    λ r so. subst (λ z. NotBefore d t place z ms) (same_some (sym (move_passes m s leads.0 line leads.1) ∙ so)) (first_passes place leads.0 ms l (line_moved d t m s leads.0 line leads.1) leads.2 (first.1 leads.0 leads.1)),
  )

  touched_one : (m : Move) (s : Going) (y : Item) → OnCallStack d t s → TouchedBy d (set_in s) m y → TouchedBy d s m y
  touched_one plain s y line on = ap (touched_at d) (sym (front_there s line)) ∙ on
  touched_one (fell o) s y line on = on

  -- what they touch there, they touch here
  pub touched_back : (s : Going) (ms : List Move) (l : Going) (y : Item) → OnCallStack d t s → Leads d t s ms l → TouchedIn d t (set_in s) ms y → TouchedIn d t s ms y
  touched_back s [] l y line leads on = on
  touched_back s (m ∷ ms) l y line leads (inl on) = inl (touched_one m s y line on)
  touched_back s (m ∷ ms) l y line leads (inr on) =
      inr (leads.0, leads.1, touched_back leads.0 ms l y (line_moved d t m s leads.0 line leads.1) leads.2 (subst (λ z. TouchedIn d t z ms y) (same_some (sym on.1 ∙ move_passes m s leads.0 line leads.1)) on.2))

  pub there_passes : (place : Place) (s : Going) → OnCallStack d t s → is_there place s ≡ true → is_there place (set_in s) ≡ true
  there_passes place s line is = place_passes place s line ∙ is

-- from its Begin
pub opened_passes : (p : PlainState) (j i : IntentId) (q x : Instance) → (i ≡ j → ⊥) → record { state = with_instance (opened p j q).state i x; active = j } ≡ opened (with_instance p i x) j q
opened_passes p j i q x other = ap (λ g. record { state = record { items = p.items; made = g }; active = j }) (sym (commutes p.made i j x (answered q Answer.Done) other))
