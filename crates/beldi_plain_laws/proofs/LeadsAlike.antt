-- The moves of a transaction go by the items alone that they touch, and by the instances that are in it; and change no others.
use Rattle.beldi_plain_laws.proofs.Names.{Alike, Answer, LeadsAlike, Bool, Deployment, Effect, FinMap, Going, OnCallStack, Instance, IntentId, IsIn, Item, Leads, List, Move, MovesReadTheirItems, None, Null, OnItem, Option, PlainState, Some, TouchedBy, TouchedIn, TxId, Value, WrittenBy, WrittenIn, [], answer_after, answer_of, answered, ap, callee_of, calls_at, cond, effect_of, ended, false, fell, get-insert, get-remove, id_cmp, id_total, inl, inr, is_eq, item_cmp, item_in, item_total, after_move, new_member, op_of, option_map, or_null, or_old, plain, refl, set_if, set_item, sets, subst, sym, test, touched_at, touched_item, true, value_at, with_instance, write, written_at, ℕ, ◌∙◌, ◌∷◌, ◌≡◌}
use Rattle.beldi_plain_laws.proofs.CallStack.{all_in, callee_in, line_moved, in_line, returned, answers_who_waits, shorter, not_longer}
use Rattle.beldi_plain_laws.proofs.Moved.{Items, answer_inside, answer_by, items_after, items_by, MoveIs, answers, calls, returns, move_is, mover, answers_so, calls_so, returns_so}
use Rattle.beldi_plain_laws.proofs.{Maps.elsewhere as stays, PlainOperations.item_same, PlainOperations.plain_set}
use Rattle.beldi_plain_laws.proofs.Names.map

abbrev value_of : Items → Item → Value
value_of m x = or_null (map.get m x)

-- ---- an item that is not set stays
elsewhere : (m : Items) (y x : Item) (v : Value) → (y ≡ x → ⊥) → map.get (set_item m y v) x ≡ map.get m x
elsewhere m y x Null apart = get-remove item_total m y x ∙ by_test (is_eq (item_cmp x y)) refl
  where
    by_test : (b : Bool) → is_eq (item_cmp x y) ≡ b → cond b None (map.get m x) ≡ map.get m x
    by_test true e = absurd (apart (sym (item_same x y e)))
    by_test false e = refl
elsewhere m y x v apart = get-insert item_total m y v x ∙ by_test (is_eq (item_cmp x y)) refl
  where
    by_test : (b : Bool) → is_eq (item_cmp x y) ≡ b → cond b (Some v) (map.get m x) ≡ map.get m x
    by_test true e = absurd (apart (sym (item_same x y e)))
    by_test false e = refl

pub kept_by : (m : Items) (func : ℕ) (o : Option OnItem) (x : Item) → (option_map (item_in func) o ≡ Some x → ⊥) → map.get (items_after m func o) x ≡ map.get m x
kept_by m func None x apart = refl
kept_by m func (Some o) x apart = by_set (sets o.does (value_of m (item_in func o)))
  where
    by_set : (u : Option Value) → map.get (set_if m (item_in func o) u) x ≡ map.get m x
    by_set None = refl
    by_set (Some v) = elsewhere m (item_in func o) x v (λ e. apart (ap (λ z. Some z) e))

module _ (d : Deployment) (t : TxId) where
  -- ---- what one move leaves
  module _ (m : Move) (s r : Going) (line : OnCallStack d t s) (h : after_move d t m s ≡ Some r) where
    one_kept : (x : Item) → (WrittenBy d s m x → ⊥) → map.get r.state.items x ≡ map.get s.state.items x
    one_kept x never = let q = mover d t m s r h in by_kind q.0 q.1 (move_is d t m s q.0 r q.1 h)
      where
        by_move : (q : Instance) → map.get s.state.made s.active ≡ Some q → (n : Move) → (WrittenBy d s n x → ⊥) → map.get (items_by s.state.items q (effect_of d q) n) x ≡ map.get s.state.items x
        by_move q made plain other = kept_by s.state.items q.func (op_of (effect_of d q)) x (λ e. other (ap (written_at d) made ∙ e))
        by_move q made (fell o) other = refl

        by_kind : (q : Instance) → map.get s.state.made s.active ≡ Some q → MoveIs d t m s r q → map.get r.state.items x ≡ map.get s.state.items x
        by_kind q made (answers a) = ap (λ (z : Going). map.get z.state.items x) a.is ∙ by_move q made m never
        by_kind q made (calls c) = ap (λ (z : Going). map.get z.state.items x) c.is
        by_kind q made (returns e) = ap (λ (z : Going). map.get z.state.items x) (returned d t m s r q made line e).is

    one_other : (i : IntentId) → (IsIn t i → ⊥) → map.get r.state.made i ≡ map.get s.state.made i
    one_other i out = let q = mover d t m s r h in by_kind q.0 q.1 (move_is d t m s q.0 r q.1 h)
      where
        apart : (k : IntentId) → IsIn t k → k ≡ i → ⊥
        apart k is same = out (subst (IsIn t) same is)

        by_kind : (q : Instance) → map.get s.state.made s.active ≡ Some q → MoveIs d t m s r q → map.get r.state.made i ≡ map.get s.state.made i
        by_kind q made (answers a) = ap (λ (z : Going). map.get z.state.made i) a.is ∙ stays s.state.made s.active i (answered q a.answer) (apart s.active (all_in d t s.state.made s.active line))
        by_kind q made (calls c) =
            let k = callee_of s.active q in
            ap (λ (z : Going). map.get z.state.made i) c.is ∙ stays s.state.made k i (new_member t c.func c.args (calls_at s.active q true)) (apart k (callee_in d t s.state.made s.active q line made))
        by_kind q made (returns e) =
            let w = returned d t m s r q made line e in
            ap (λ (z : Going). map.get z.state.made i) w.is
            ∙ stays (map.insert s.state.made s.active (ended q e.outcome)) w.caller i (answered w.member.waiter (answer_of e.outcome)) (apart w.caller (all_in d t s.state.made w.caller w.line))
            ∙ stays s.state.made s.active i (ended q e.outcome) (apart s.active (all_in d t s.state.made s.active line))

  pub kept : (s : Going) (moves : List Move) (l : Going) → OnCallStack d t s → Leads d t s moves l → (x : Item) → (WrittenIn d t s moves x → ⊥) → map.get l.state.items x ≡ map.get s.state.items x
  kept s [] l line leads x never = ap (λ (z : Going). map.get z.state.items x) (sym leads)
  kept s (m ∷ ms) l line leads x never = kept leads.0 ms l (line_moved d t m s leads.0 line leads.1) leads.2 x (λ w. never (inr (leads.0, leads.1, w))) ∙ one_kept m s leads.0 line leads.1 x (λ w. never (inl w))

  pub others : (s : Going) (moves : List Move) (l : Going) → OnCallStack d t s → Leads d t s moves l → (i : IntentId) → (IsIn t i → ⊥) → map.get l.state.made i ≡ map.get s.state.made i
  others s [] l line leads i out = ap (λ (z : Going). map.get z.state.made i) (sym leads)
  others s (m ∷ ms) l line leads i out = others leads.0 ms l (line_moved d t m s leads.0 line leads.1) leads.2 i out ∙ one_other m s leads.0 line leads.1 i out

-- ---- only what is touched is read
module _ (m other : Items) (q : Instance) where
  same_answer : (e : Effect) → ((y : Item) → touched_item q e ≡ Some y → value_of other y ≡ value_of m y) → answer_inside other q.func e ≡ answer_inside m q.func e
  same_answer (Effect.Read t k) agree = ap (λ w. Some (Answer.Value w)) (agree (record { func = q.func; table = t; key = k }) refl)
  same_answer (Effect.Write t k v) agree = ap (λ w. Some (answer_after (write v) w)) (agree (record { func = q.func; table = t; key = k }) refl)
  same_answer (Effect.CondWrite t k r o v) agree = ap (λ w. Some (answer_after (test r o v) w)) (agree (record { func = q.func; table = t; key = k }) refl)
  same_answer e agree = refl

  -- an operation inside touches what it writes
  pub touches : (e : Effect) (a : Answer) (y : Item) → answer_inside m q.func e ≡ Some a → option_map (item_in q.func) (op_of e) ≡ Some y → touched_item q e ≡ Some y
  touches (Effect.Read t k) a y h is = cc
  touches (Effect.Write t k v) a y h is = is
  touches (Effect.CondWrite t k r o v) a y h is = is
  touches e a y h is = cc

  same_after : (o : Option OnItem) → ((y : Item) → option_map (item_in q.func) o ≡ Some y → value_of other y ≡ value_of m y) → (x : Item) → value_of other x ≡ value_of m x → value_of (items_after other q.func o) x ≡ value_of (items_after m q.func o) x
  same_after None agree x same = same
  same_after (Some o) agree x same =
      let y = item_in q.func o in
      plain_set other y x (sets o.does (value_of other y))
      ∙ ap (λ w. cond (is_eq (item_cmp x y)) (or_old (sets o.does w) w) (value_of other x)) (agree y refl)
      ∙ ap (cond (is_eq (item_cmp x y)) (or_old (sets o.does (value_of m y)) (value_of m y))) same
      ∙ sym (plain_set m y x (sets o.does (value_of m y)))

-- ---- beside
abbrev pub in_state : PlainState → Going → Going
in_state p s = record { state = p; active = s.active }

abbrev pub SameMembers : TxId → PlainState → PlainState → Type 0
SameMembers t p s = (i : IntentId) → IsIn t i → map.get p.made i ≡ map.get s.made i

pub set_alike : (f g : FinMap id_cmp Instance) (k i : IntentId) (z : Instance) → map.get f i ≡ map.get g i → map.get (map.insert f k z) i ≡ map.get (map.insert g k z) i
set_alike f g k i z h = get-insert id_total f k z i ∙ ap (cond (is_eq (id_cmp i k)) (Some z)) h ∙ sym (get-insert id_total g k z i)

-- one move, in another state
pub record OneLeadsAlike (d : Deployment) (t : TxId) (m : Move) (s r : Going) (p : PlainState) : Type 0 where
  pub state : PlainState
  pub leads : after_move d t m (in_state p s) ≡ Some (in_state state r)
  pub members : SameMembers t state r.state
  pub same : (x : Item) → value_at p x ≡ value_at s.state x → value_at state x ≡ value_at r.state x

module _ (d : Deployment) (t : TxId) (m : Move) (s r : Going) (p : PlainState) (line : OnCallStack d t s) (members : SameMembers t p s.state) (agree : (x : Item) → TouchedBy d s m x → value_at p x ≡ value_at s.state x) where
  module _ (q : Instance) (made : map.get s.state.made s.active ≡ Some q) where
    made_there : map.get p.made s.active ≡ Some q
    made_there = members s.active (all_in d t s.state.made s.active line) ∙ made

    agree_on : m ≡ plain → (y : Item) → touched_item q (effect_of d q) ≡ Some y → value_at p y ≡ value_at s.state y
    agree_on is y on = agree y (subst (λ n. TouchedBy d s n y) (sym is) (ap (touched_at d) made ∙ on))

    answers_same : (n : Move) → m ≡ n → answer_by s.active p.items q (effect_of d q) n ≡ answer_by s.active s.state.items q (effect_of d q) n
    answers_same plain is = same_answer s.state.items p.items q (effect_of d q) (agree_on is)
    answers_same (fell o) is = refl

    after_same : (n : Move) → m ≡ n → (a : Answer) → answer_by s.active s.state.items q (effect_of d q) n ≡ Some a → (x : Item) → value_at p x ≡ value_at s.state x
        → value_of (items_by p.items q (effect_of d q) n) x ≡ value_of (items_by s.state.items q (effect_of d q) n) x
    after_same plain is a gives x same = same_after s.state.items p.items q (op_of (effect_of d q)) (λ y on. agree_on is y (touches s.state.items p.items q (effect_of d q) a y gives on)) x same
    after_same (fell o) is a gives x same = same

    by_kind : MoveIs d t m s r q → OneLeadsAlike d t m s r p
    by_kind (answers a) = subst (λ z. OneLeadsAlike d t m s z p) (sym a.is) (record {
      state = record { items = items_by p.items q (effect_of d q) m; made = map.insert p.made s.active (answered q a.answer) };
      leads = answers_so d t m (in_state p s) q made_there a.answer (answers_same m refl ∙ a.gives_it);
      members = λ i is. set_alike p.made s.state.made s.active i (answered q a.answer) (members i is);
      same = λ x is. after_same m refl a.answer a.gives_it x is;
    })
    by_kind (calls c) =
        let k = callee_of s.active q in
        let z = new_member t c.func c.args (calls_at s.active q true) in
        subst (λ u. OneLeadsAlike d t m s u p) (sym c.is) (record {
          state = with_instance p k z;
          leads = calls_so d t m (in_state p s) q made_there c.func c.args c.plainly c.call c.short (members k (callee_in d t s.state.made s.active q line made) ∙ c.gone);
          members = λ i is. set_alike p.made s.state.made k i z (members i is);
          same = λ x is. is;
        })
    by_kind (returns e) =
        let w = returned d t m s r q made line e in
        let over = ended q e.outcome in
        let last = answered w.member.waiter (answer_of e.outcome) in
        let there : map.get (map.insert p.made s.active over) w.caller ≡ Some w.member.waiter =
        stays p.made s.active w.caller over (λ same. not_longer w.caller s.active (shorter d t s.state.made w.caller s.active w.member) same) ∙ members w.caller (all_in d t s.state.made w.caller w.line) ∙ w.member.waits in
        subst (λ u. OneLeadsAlike d t m s u p) (sym w.is) (record {
          state = record { items = p.items; made = map.insert (map.insert p.made s.active over) w.caller last };
          leads = returns_so d t m (in_state p s) q made_there e.outcome e.caller e.plainly e.returns e.not_owner e.parent
              ∙ (λ j. Some (record { state = answers_who_waits d t (in_state p s) q e.outcome e.caller w.caller w.member.waiter w.call_is there j; active = (w.call_is j).place.intent }));
          members = λ i is. set_alike (map.insert p.made s.active over) (map.insert s.state.made s.active over) w.caller i last (set_alike p.made s.state.made s.active i over (members i is));
          same = λ x is. is;
        })

  pub one_leads_alike : after_move d t m s ≡ Some r → OneLeadsAlike d t m s r p
  one_leads_alike h = let q = mover d t m s r h in by_kind q.0 q.1 (move_is d t m s q.0 r q.1 h)

module _ (d : Deployment) (t : TxId) where
  leads_alike_at : (s : Going) (p : PlainState) (moves : List Move) (l : Going) → OnCallStack d t s → Leads d t s moves l → SameMembers t p s.state → ((x : Item) → TouchedIn d t s moves x → value_at p x ≡ value_at s.state x) → LeadsAlike d t s (in_state p s) moves l
  leads_alike_at s p [] l line leads members agree = record {
    going = in_state p s;
    leads = refl;
    alike = record { active = ap (λ (z : Going). z.active) leads; members = λ i is. members i is ∙ ap (λ (z : Going). map.get z.state.made i) leads };
    same = λ x is. is ∙ ap (λ (z : Going). value_at z.state x) leads;
  }
  leads_alike_at s p (m ∷ ms) l line leads members agree =
      let one = one_leads_alike d t m s leads.0 p line members (λ x on. agree x (inl on)) leads.1 in
      let rest = leads_alike_at leads.0 one.state ms l (line_moved d t m s leads.0 line leads.1) leads.2 one.members (λ x on. one.same x (agree x (inr (leads.0, leads.1, on)))) in
      record { going = rest.going; leads = (in_state one.state leads.0, one.leads, rest.leads); alike = rest.alike; same = λ x is. rest.same x (one.same x is) }

  pub leads_alike : (s other : Going) (moves : List Move) (l : Going) → OnCallStack d t s → Leads d t s moves l → Alike t s other → ((x : Item) → TouchedIn d t s moves x → value_at other.state x ≡ value_at s.state x) → LeadsAlike d t s other moves l
  leads_alike s other moves l line leads alike agree =
      let same : in_state other.state s ≡ other = λ j. record { state = other.state; active = sym alike.active j } in
      subst (λ z. LeadsAlike d t s z moves l) same (leads_alike_at s other.state moves l line leads alike.members agree)

pub moves_read_their_items : MovesReadTheirItems
moves_read_their_items = record { in_line = λ d t. in_line d t; kept = λ d t. kept d t; others = λ d t. others d t; leads_alike = λ d t. leads_alike d t }
