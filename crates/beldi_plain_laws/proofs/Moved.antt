-- One move of a transaction: an answer of the one that can step, a call of it, or its return.
use Rattle.beldi_plain.specs.Operation.{cond}
use Rattle.beldi_plain_laws.proofs.Names.{Answer, Bool, Caller, Deployment, Effect, FinMap, Going, Instance, IntentId, Move, None, OnItem, Option, Outcome, Some, TxId, Value, aborted, answer_after, answer_to, answered, ap, at_instance, callee_of, dies_at, effect_of, ended, fallen, false, fell, has_callees, if◌then◌else◌, is_owner, is_some, item_cmp, item_in, item_of, move_by, after_move, moves_by, op_of, or_null, plain, refl, returns_to, set_if, sets, sym, true, unless, value_at, with_instance, with_member, write, ℕ, ◌∙◌, ◌≡◌}
use Rattle.beldi_plain_laws.proofs.Maps.{same_some, none_by}
use Rattle.beldi_plain_laws.proofs.Names.map

abbrev pub Items : Type 0
Items = FinMap item_cmp Value

-- ---- an answer
-- by the items, of the one at this id
abbrev pub answer_on : Items → ℕ → OnItem → Answer
answer_on m func o = answer_after o.does (or_null (map.get m (item_in func o)))

abbrev pub answer_inside : Items → ℕ → Effect → Option Answer
answer_inside m func (Effect.Read t k) = Some (Answer.Value (or_null (map.get m (record { func = func; table = t; key = k }))))
answer_inside m func (Effect.Write t k v) = Some (answer_on m func (record { table = t; key = k; does = write v }))
answer_inside m func (Effect.CondWrite t k r o v) = Some (answer_on m func (record { table = t; key = k; does = cond r o v }))
answer_inside m func e = None

abbrev pub answer_by : IntentId → Items → Instance → Effect → Move → Option Answer
answer_by id m q e plain = answer_inside m q.func e
answer_by id m q e (fell h) = if dies_at h e then Some (aborted id q h) else None

-- the items after it
abbrev pub items_after : Items → ℕ → Option OnItem → Items
items_after m func None = m
items_after m func (Some o) = set_if m (item_in func o) (sets o.does (or_null (map.get m (item_in func o))))

abbrev pub items_by : Items → Instance → Effect → Move → Items
items_by m q e plain = items_after m q.func (op_of e)
items_by m q e (fell h) = m

abbrev pub gone_on : Going → Items → Instance → Answer → Going
gone_on s m q a = record { state = record { items = m; made = map.insert s.state.made s.active (answered q a) }; active = s.active }

pub record Answers (d : Deployment) (t : TxId) (m : Move) (s r : Going) (q : Instance) : Type 0 where
  pub answer : Answer
  pub gives_it : answer_by s.active s.state.items q (effect_of d q) m ≡ Some answer
  pub is : r ≡ gone_on s (items_by s.state.items q (effect_of d q) m) q answer

-- ---- a call
pub record Calls (d : Deployment) (t : TxId) (m : Move) (s r : Going) (q : Instance) : Type 0 where
  pub plainly : m ≡ plain
  pub func : ℕ
  pub args : Value
  pub call : effect_of d q ≡ Effect.Call func args
  pub short : has_callees s.active ≡ true
  pub gone : map.get s.state.made (callee_of s.active q) ≡ None
  pub is : r ≡ with_member t s.state s.active q func args

-- ---- a return
pub record Returns (d : Deployment) (t : TxId) (m : Move) (s r : Going) (q : Instance) : Type 0 where
  pub plainly : m ≡ plain
  pub outcome : Outcome
  pub returns : effect_of d q ≡ Effect.Return outcome
  pub not_owner : is_owner t s.active ≡ false
  pub caller : Caller
  pub parent : q.parent ≡ Some caller
  pub is : r ≡ record { state = answer_to (with_instance s.state s.active (ended q outcome)) caller outcome; active = caller.place.intent }

pub data MoveIs (d : Deployment) (t : TxId) (m : Move) (s r : Going) (q : Instance) : Type 0 where
  answers : Answers d t m s r q → MoveIs d t m s r q
  calls : Calls d t m s r q → MoveIs d t m s r q
  returns : Returns d t m s r q → MoveIs d t m s r q

module _ (d : Deployment) (t : TxId) (m : Move) (s : Going) where
  pub moved_is : (q : Instance) → map.get s.state.made s.active ≡ Some q → after_move d t m s ≡ move_by t s.state s.active q (effect_of d q) m
  moved_is q is = ap (λ o. at_instance o (λ z. move_by t s.state s.active z (effect_of d z) m)) is

  module _ (q : Instance) (r : Going) where
    answers_plain : (a : Answer) (e : Effect) → effect_of d q ≡ e → m ≡ plain → answer_inside s.state.items q.func e ≡ Some a → gone_on s (items_after s.state.items q.func (op_of e)) q a ≡ r → MoveIs d t m s r q
    answers_plain a e so is gives leads = answers (record {
      answer = a;
      gives_it = ap (answer_by s.active s.state.items q (effect_of d q)) is ∙ ap (answer_inside s.state.items q.func) so ∙ gives;
      is = sym (ap (λ n. gone_on s n q a) (ap (items_by s.state.items q (effect_of d q)) is ∙ ap (λ z. items_after s.state.items q.func (op_of z)) so) ∙ leads);
    })

    by_call : (f : ℕ) (v : Value) (b c : Bool) → has_callees s.active ≡ b → is_some (map.get s.state.made (callee_of s.active q)) ≡ c → effect_of d q ≡ Effect.Call f v → m ≡ plain
        → (if b then unless c (Some (with_member t s.state s.active q f v)) else None) ≡ Some r → MoveIs d t m s r q
    by_call f v true false short free so is h = calls (record { plainly = is; func = f; args = v; call = so; short = short; gone = none_by (map.get s.state.made (callee_of s.active q)) (λ z on. let clash = sym free ∙ ap is_some on in cc); is = sym (same_some h) })
    by_call f v true true short free so is h = cc
    by_call f v false c short free so is h = cc

    by_return : (o : Outcome) (b : Bool) (c : Option Caller) → is_owner t s.active ≡ b → q.parent ≡ c → effect_of d q ≡ Effect.Return o → m ≡ plain → (if b then None else returns_to s.state s.active q o c) ≡ Some r → MoveIs d t m s r q
    by_return o true c own from so is h = cc
    by_return o false None own from so is h = cc
    by_return o false (Some c) own from so is h = returns (record { plainly = is; outcome = o; returns = so; not_owner = own; caller = c; parent = from; is = sym (same_some h) })

    by_effect : (e : Effect) → effect_of d q ≡ e → m ≡ plain → moves_by t s.state s.active q e ≡ Some r → MoveIs d t m s r q
    by_effect (Effect.Read b k) so is h = answers_plain (Answer.Value (value_at s.state (item_of q b k))) (Effect.Read b k) so is refl (same_some h)
    by_effect (Effect.Write b k v) so is h = answers_plain (answer_on s.state.items q.func (record { table = b; key = k; does = write v })) (Effect.Write b k v) so is refl (same_some h)
    by_effect (Effect.CondWrite b k u o v) so is h = answers_plain (answer_on s.state.items q.func (record { table = b; key = k; does = cond u o v })) (Effect.CondWrite b k u o v) so is refl (same_some h)
    by_effect (Effect.Call f v) so is h = by_call f v (has_callees s.active) (is_some (map.get s.state.made (callee_of s.active q))) refl refl so is h
    by_effect (Effect.Return o) so is h = by_return o (is_owner t s.active) q.parent refl refl so is h
    by_effect e so is h = cc

    by_fall : (o : Option IntentId) (b : Bool) → dies_at o (effect_of d q) ≡ b → m ≡ fell o → (if b then Some (fallen s.state s.active q o) else None) ≡ Some r → MoveIs d t m s r q
    by_fall o false dies is h = cc
    by_fall o true dies is h = answers (record {
      answer = aborted s.active q o;
      gives_it = ap (answer_by s.active s.state.items q (effect_of d q)) is ∙ ap (λ b. if b then Some (aborted s.active q o) else None) dies;
      is = sym (ap (λ n. gone_on s n q (aborted s.active q o)) (ap (items_by s.state.items q (effect_of d q)) is) ∙ same_some h);
    })

    by_move : (n : Move) → m ≡ n → move_by t s.state s.active q (effect_of d q) n ≡ Some r → MoveIs d t m s r q
    by_move plain is h = by_effect (effect_of d q) refl is h
    by_move (fell o) is h = by_fall o (dies_at o (effect_of d q)) refl is h

    pub move_is : map.get s.state.made s.active ≡ Some q → after_move d t m s ≡ Some r → MoveIs d t m s r q
    move_is made h = by_move m refl (sym (moved_is q made) ∙ h)

  pub mover : (r : Going) → after_move d t m s ≡ Some r → (q : Instance) × (map.get s.state.made s.active ≡ Some q)
  mover r h = by_front (map.get s.state.made s.active) refl h
    where
      by_front : (o : Option Instance) → map.get s.state.made s.active ≡ o → at_instance o (λ z. move_by t s.state s.active z (effect_of d z) m) ≡ Some r → (q : Instance) × (map.get s.state.made s.active ≡ Some q)
      by_front None is g = cc
      by_front (Some q) is g = (q, is)

  -- ---- and what makes one
  module _ (q : Instance) (made : map.get s.state.made s.active ≡ Some q) where
    pub answers_so : (a : Answer) → answer_by s.active s.state.items q (effect_of d q) m ≡ Some a → after_move d t m s ≡ Some (gone_on s (items_by s.state.items q (effect_of d q) m) q a)
    answers_so a h = moved_is q made ∙ by_kind m h
      where
        by_answer : (e : Effect) → answer_inside s.state.items q.func e ≡ Some a → moves_by t s.state s.active q e ≡ Some (gone_on s (items_after s.state.items q.func (op_of e)) q a)
        by_answer (Effect.Read b k) g = ap (λ z. Some (gone_on s s.state.items q z)) (same_some g)
        by_answer (Effect.Write b k v) g = ap (λ z. Some (gone_on s (items_after s.state.items q.func (op_of (Effect.Write b k v))) q z)) (same_some g)
        by_answer (Effect.CondWrite b k u o v) g = ap (λ z. Some (gone_on s (items_after s.state.items q.func (op_of (Effect.CondWrite b k u o v))) q z)) (same_some g)
        by_answer e g = cc

        by_test : (o : Option IntentId) (b : Bool) → (if b then Some (aborted s.active q o) else None) ≡ Some a → (if b then Some (fallen s.state s.active q o) else None) ≡ Some (gone_on s s.state.items q a)
        by_test o true g = ap (λ z. Some (gone_on s s.state.items q z)) (same_some g)
        by_test o false g = cc

        by_kind : (n : Move) → answer_by s.active s.state.items q (effect_of d q) n ≡ Some a → move_by t s.state s.active q (effect_of d q) n ≡ Some (gone_on s (items_by s.state.items q (effect_of d q) n) q a)
        by_kind plain g = by_answer (effect_of d q) g
        by_kind (fell o) g = by_test o (dies_at o (effect_of d q)) g

    pub calls_so : (f : ℕ) (v : Value) → m ≡ plain → effect_of d q ≡ Effect.Call f v → has_callees s.active ≡ true → map.get s.state.made (callee_of s.active q) ≡ None → after_move d t m s ≡ Some (with_member t s.state s.active q f v)
    calls_so f v is so short gone =
        moved_is q made ∙ ap (move_by t s.state s.active q (effect_of d q)) is ∙ ap (moves_by t s.state s.active q) so
        ∙ ap (λ b. if b then unless (is_some (map.get s.state.made (callee_of s.active q))) (Some (with_member t s.state s.active q f v)) else None) short
        ∙ ap (λ o. unless (is_some o) (Some (with_member t s.state s.active q f v))) gone

    pub returns_so : (o : Outcome) (c : Caller) → m ≡ plain → effect_of d q ≡ Effect.Return o → is_owner t s.active ≡ false → q.parent ≡ Some c → after_move d t m s ≡ Some (record { state = answer_to (with_instance s.state s.active (ended q o)) c o; active = c.place.intent })
    returns_so o c is so own from =
        moved_is q made ∙ ap (move_by t s.state s.active q (effect_of d q)) is ∙ ap (moves_by t s.state s.active q) so
        ∙ ap (λ b. if b then None else returns_to s.state s.active q o q.parent) own ∙ ap (returns_to s.state s.active q o) from
