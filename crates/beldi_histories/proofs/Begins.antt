-- What a body wants after an answer more: inside or outside, after a Begin, after an abort, and with which locks.
use Rattle.beldi_lang.specs.Wants.{effect_of}
use Rattle.beldi_histories.proofs.Names.{Answer, Bool, Cause, Deployment, Effect, HeldLock, Leads, List, Outcome, Value, [], ap, append-nil, append_assoc, asks, body, false, func_at, inl, inr, inside_of, is_inside, refl, subst, sym, true, wants, ℕ, ◌++◌, ◌||◌, ◌∙◌, ◌∷◌, ◌≡◌, ◌⊎◌}
use Rattle.beldi_histories.proofs.Flows.{Phase, block, own, aborted, leaving, stands, held_after, Flow, goes_on, breaks_off, left, frees, returned, leaves, wanted, begins, inside, closes, aborts, asked, body_flow}
use Rattle.beldi_histories.proofs.Answers.{true_false}

-- ---- phases
-- a transaction of its own is open
abbrev pub is_begun : Phase → Bool
is_begun block = false
is_begun own = true
is_begun aborted = true
is_begun (leaving o) = false

abbrev pub is_leaving : Phase → Bool
is_leaving (leaving o) = true
is_leaving p = false

-- .. after an effect
abbrev pub begun_after : Effect → Bool → Bool
begun_after Effect.Begin b = true
begun_after (Effect.End c) b = false
begun_after e b = b

abbrev pub is_unlock : Effect → Bool
is_unlock (Effect.Unlock t k) = true
is_unlock e = false

stands_begun : (i b : Bool) (e : Effect) → stands i e ≡ true → begun_after e b ≡ b
stands_begun i b Effect.Begin h = cc
stands_begun i b (Effect.End c) h = cc
stands_begun i b e h = refl

-- ---- what is wanted in a phase
pub record Now (i : Bool) (p : Phase) (hs : List HeldLock) (b : Bool) (e : Effect) : Type 0 where
  pub enclosing : b ≡ (is_begun p || i)
  pub at_begin : e ≡ Effect.Begin → (i ≡ false) × (hs ≡ []) × (is_begun p ≡ false) × (is_leaving p ≡ false)
  pub at_end : (c : Bool) → e ≡ Effect.End c → is_begun p ≡ true
  pub at_abort : e ≡ Effect.Abort → b ≡ true
  pub dying : p ≡ aborted → e ≡ Effect.End false
  -- inside one's own each effect but the End is that of a statement
  pub standing : is_begun p ≡ true → ((c : Bool) → e ≡ Effect.End c → ⊥) → stands true e ≡ true
  -- the locks are released, and then the body returns
  pub ending : (o : Outcome) → p ≡ leaving o → (e ≡ Effect.Return o) ⊎ ((is_unlock e ≡ true) × (hs ≡ [] → ⊥))

now_of : (i : Bool) (p : Phase) (hs : List HeldLock) (l : Leads) (b : Bool) (e : Effect) → l ≡ asks b e → Now i p hs b e → Now i p hs (inside_of i l) (effect_of l)
now_of i p hs l b e is h = subst (λ l. Now i p hs (inside_of i l) (effect_of l)) (sym is) h

-- an effect that a statement wants
stood_begin : (b : Bool) (e : Effect) → stands b e ≡ true → e ≡ Effect.Begin → ⊥
stood_begin b e h g = let k = sym (ap (stands b) g) ∙ h in cc

stood_end : (b : Bool) (e : Effect) (c : Bool) → stands b e ≡ true → e ≡ Effect.End c → ⊥
stood_end b e c h g = let k = sym (ap (stands b) g) ∙ h in cc

stood_abort : (b : Bool) (e : Effect) → stands b e ≡ true → e ≡ Effect.Abort → b ≡ true
stood_abort b e h g = sym (ap (stands b) g) ∙ h

-- what ends the body may be wanted of statements
as_block : (i : Bool) (o : Outcome) (hs : List HeldLock) (b : Bool) (e : Effect) → Now i (leaving o) hs b e → Now i block hs b e
as_block i o hs b e n =
    record { enclosing = n.enclosing; at_begin = λ g. let k = n.at_begin g in absurd (true_false k.3); at_end = n.at_end; at_abort = n.at_abort; dying = λ g. cc; standing = n.standing; ending = λ u g. cc }

-- an End is wanted where a transaction is open
at_end_now : (i c : Bool) (p : Phase) (hs : List HeldLock) → is_begun p ≡ true → (p ≡ aborted → c ≡ false) → Now i p hs true (Effect.End c)
at_end_now i c p hs begun dead = record {
  enclosing = sym (ap (λ z. z || i) begun);
  at_begin = λ g. cc;
  at_end = λ z g. begun;
  at_abort = λ g. refl;
  dying = λ g. ap Effect.End (dead g);
  standing = λ g k. absurd (k c refl);
  ending = λ o g. let k = sym begun ∙ ap is_begun g in cc;
}

pub now : (i : Bool) (p : Phase) (hs : List HeldLock) (F : List Answer → Leads) → Flow true i p hs F → Now i p hs (inside_of i (F [])) (effect_of (F []))
now i _ _ _ (goes_on hs F s part same e) = cc
now i _ _ _ (breaks_off hs F s part same e) = cc
now i _ _ _ (left hs F o s part same e) = cc
now i _ _ _ (frees hs F o l ls whole same is more) = now_of i (leaving o) hs (F []) i (Effect.Unlock l.table l.key) is
    (record { enclosing = refl; at_begin = λ g. cc; at_end = λ c g. cc; at_abort = λ g. cc; dying = λ g. cc; standing = λ g k. cc; ending = λ u g. inr (refl, λ none. let z = sym same ∙ none in cc) })
now i _ _ _ (returned hs F o whole same is) = now_of i (leaving o) hs (F []) i (Effect.Return o) (is [])
    (record { enclosing = refl; at_begin = λ g. cc; at_end = λ c g. cc; at_abort = λ g. cc; dying = λ g. cc; standing = λ g k. cc; ending = λ u g. inl cc })
now i _ _ _ (leaves hs F o f) = as_block i o hs (inside_of i (F [])) (effect_of (F [])) (now i (leaving o) hs F f)
now i _ _ _ (wanted hs F e is fits more none) = now_of i block hs (F []) i e is (record {
  enclosing = refl;
  at_begin = λ g. absurd (stood_begin i e fits g);
  at_end = λ c g. absurd (stood_end i e c fits g);
  at_abort = λ g. stood_abort i e fits g;
  dying = λ g. cc;
  standing = λ g k. cc;
  ending = λ o g. cc;
})
now i _ _ _ (begins hs F out free is more) = now_of i block hs (F []) false Effect.Begin is
    (record { enclosing = sym out; at_begin = λ g. (out, free, refl, refl); at_end = λ c g. cc; at_abort = λ g. cc; dying = λ g. cc; standing = λ g k. cc; ending = λ o g. cc })
now i _ _ _ (inside hs F e is fits more none) = now_of i own hs (F []) true e is
    (record { enclosing = refl; at_begin = λ g. absurd (stood_begin true e fits g); at_end = λ c g. refl; at_abort = λ g. refl; dying = λ g. cc; standing = λ g k. fits; ending = λ o g. cc })
now i _ _ _ (closes hs F c is more) = now_of i own hs (F []) true (Effect.End c) is (at_end_now i c own hs refl (λ g. cc))
now i _ _ _ (aborts hs F is more) = now_of i aborted hs (F []) true (Effect.End false) is (at_end_now i false aborted hs refl (λ g. refl))

-- ---- after an answer
pub record Next (i : Bool) (p : Phase) (hs : List HeldLock) (e : Effect) (a : Answer) (F : List Answer → Leads) : Type 0 where
  pub phase : Phase
  pub held : List HeldLock
  pub flow : Flow true i phase held F
  pub begun : is_begun phase ≡ begun_after e (is_begun p)
  pub locks : is_leaving phase ≡ false → (is_leaving p ≡ false) × (held ≡ held_after e hs)
  -- an abort leads to the End, or ends the body
  pub dies : (c : Cause) → a ≡ Answer.Aborted c → stands true e ≡ true → is_begun p ≡ true → phase ≡ aborted
  pub ends : (c : Cause) → a ≡ Answer.Aborted c → stands true e ≡ true → is_begun p ≡ false → is_unlock e ≡ false → (phase ≡ leaving (Outcome.Aborted c)) × (held ≡ held_after e hs)

next_of : (i : Bool) (p : Phase) (hs : List HeldLock) (l : Leads) (b : Bool) (e : Effect) (a : Answer) (F : List Answer → Leads) → l ≡ asks b e → Next i p hs e a F → Next i p hs (effect_of l) a F
next_of i p hs l b e a F is h = subst (λ l. Next i p hs (effect_of l) a F) (sym is) h

wanted_next : (i : Bool) (hs : List HeldLock) (F : List Answer → Leads) (e : Effect) → F [] ≡ asks i e → stands i e ≡ true → ((a : Answer) → Flow true i block (held_after e hs) (λ ts. F (a ∷ ts)))
    → ((c : Cause) → Flow true i (leaving (Outcome.Aborted c)) (held_after e hs) (λ ts. F (Answer.Aborted c ∷ ts))) → (a : Answer) → Next i block hs e a (λ ts. F (a ∷ ts))
wanted_next i hs F e is fits more none (Answer.Aborted c) = record {
  phase = leaving (Outcome.Aborted c);
  held = held_after e hs;
  flow = none c;
  begun = sym (stands_begun i false e fits);
  locks = λ g. cc;
  dies = λ z g f k. cc;
  ends = λ z g f k u. let same : c ≡ z = cc in (ap (λ w. leaving (Outcome.Aborted w)) same, refl);
}
wanted_next i hs F e is fits more none a =
    record { phase = block; held = held_after e hs; flow = more a; begun = sym (stands_begun i false e fits); locks = λ g. (refl, refl); dies = λ z g f k. cc; ends = λ z g f k u. cc }

inside_next : (i : Bool) (hs : List HeldLock) (F : List Answer → Leads) (e : Effect) → stands true e ≡ true → ((a : Answer) → Flow true i own (held_after e hs) (λ ts. F (a ∷ ts))) → ((c : Cause) → Flow true i aborted (held_after e hs) (λ ts. F (Answer.Aborted c ∷ ts)))
    → (a : Answer) → Next i own hs e a (λ ts. F (a ∷ ts))
inside_next i hs F e fits more none (Answer.Aborted c) =
    record { phase = aborted; held = held_after e hs; flow = none c; begun = sym (stands_begun true true e fits); locks = λ g. (refl, refl); dies = λ z g f k. refl; ends = λ z g f k u. cc }
inside_next i hs F e fits more none a =
    record { phase = own; held = held_after e hs; flow = more a; begun = sym (stands_begun true true e fits); locks = λ g. (refl, refl); dies = λ z g f k. cc; ends = λ z g f k u. cc }

-- after an End
ended_next : (i : Bool) (p : Phase) (hs : List HeldLock) (c : Bool) (a : Answer) (F : List Answer → Leads) → is_leaving p ≡ false → Flow true i block hs F → Next i p hs (Effect.End c) a F
ended_next i p hs c a F stays f = record { phase = block; held = hs; flow = f; begun = refl; locks = λ g. (stays, refl); dies = λ z g f k. cc; ends = λ z g f k u. cc }

pub next : (i : Bool) (p : Phase) (hs : List HeldLock) (F : List Answer → Leads) (a : Answer) → Flow true i p hs F → Next i p hs (effect_of (F [])) a (λ ts. F (a ∷ ts))
next i _ _ _ a (goes_on hs F s part same e) = cc
next i _ _ _ a (breaks_off hs F s part same e) = cc
next i _ _ _ a (left hs F o s part same e) = cc
next i _ _ _ a (frees hs F o l ls whole same is more) = next_of i (leaving o) hs (F []) i (Effect.Unlock l.table l.key) a (λ ts. F (a ∷ ts)) is
    (record { phase = leaving o; held = ls; flow = more a; begun = refl; locks = λ g. cc; dies = λ c g f k. cc; ends = λ c g f k u. cc })
next i _ _ _ a (returned hs F o whole same is) = next_of i (leaving o) hs (F []) i (Effect.Return o) a (λ ts. F (a ∷ ts)) (is [])
    (record { phase = leaving o; held = hs; flow = returned hs (λ ts. F (a ∷ ts)) o whole same (λ ts. is (a ∷ ts)); begun = refl; locks = λ g. cc; dies = λ c g f k. cc; ends = λ c g f k u. cc })
next i _ _ _ a (leaves hs F o f) =
    let n = next i (leaving o) hs F a f in
    record { phase = n.phase; held = n.held; flow = n.flow; begun = n.begun; locks = λ g. (refl, (n.locks g).1); dies = n.dies; ends = n.ends }
next i _ _ _ a (wanted hs F e is fits more none) = next_of i block hs (F []) i e a (λ ts. F (a ∷ ts)) is (wanted_next i hs F e is fits more none a)
next i _ _ _ a (begins hs F out free is more) = next_of i block hs (F []) false Effect.Begin a (λ ts. F (a ∷ ts)) is
    (record { phase = own; held = hs; flow = more a; begun = refl; locks = λ g. (refl, refl); dies = λ z g f k. cc; ends = λ z g f k u. cc })
next i _ _ _ a (inside hs F e is fits more none) = next_of i own hs (F []) true e a (λ ts. F (a ∷ ts)) is (inside_next i hs F e fits more none a)
next i _ _ _ a (closes hs F c is more) = next_of i own hs (F []) true (Effect.End c) a (λ ts. F (a ∷ ts)) is (ended_next i own hs c a (λ ts. F (a ∷ ts)) refl (more a))
next i _ _ _ a (aborts hs F is more) = next_of i aborted hs (F []) true (Effect.End false) a (λ ts. F (a ∷ ts)) is (ended_next i aborted hs false a (λ ts. F (a ∷ ts)) refl (more a))

-- ---- a body after answers
pub false_true : false ≡ true → ⊥
false_true h = cc

pub record Going (d : Deployment) (func : ℕ) (args : Value) (i : Bool) (given : List Answer) : Type 0 where
  pub phase : Phase
  pub held : List HeldLock
  pub flow : Flow true i phase held (λ ts. asked i (body d (func_at d func) args i (given ++ ts)))
  -- who was called in a transaction begins none
  pub outside : is_begun phase ≡ true → i ≡ false

module _ (d : Deployment) (func : ℕ) (args : Value) (i : Bool) where
  abbrev after : List Answer → List Answer → Leads
  after given ts = asked i (body d (func_at d func) args i (given ++ ts))

  abbrev pub at_first : Going d func args i []
  at_first = record { phase = block; held = []; flow = body_flow d func args i; outside = λ g. absurd (false_true g) }

  pub going_now : (given : List Answer) (g : Going d func args i given) → Now i g.phase g.held (is_inside d func args i given) (wants d func args i given)
  going_now given g = subst (λ ts. Now i g.phase g.held (is_inside d func args i ts) (wants d func args i ts)) (append-nil given) (now i g.phase g.held (after given) g.flow)

  pub going_next : (given : List Answer) (a : Answer) (g : Going d func args i given) → Next i g.phase g.held (wants d func args i given) a (after (given ++ a ∷ []))
  going_next given a g =
      let same : (λ ts. after given (a ∷ ts)) ≡ after (given ++ a ∷ []) = λ k ts. ap (λ xs. asked i (body d (func_at d func) args i xs)) (sym (append_assoc given (a ∷ []) ts)) k in
      subst (Next i g.phase g.held (wants d func args i given) a) same
      (subst (λ ts. Next i g.phase g.held (wants d func args i ts) a (λ ts. after given (a ∷ ts))) (append-nil given) (next i g.phase g.held (after given) a g.flow))

  pub outside_on : (given : List Answer) (g : Going d func args i given) (e : Effect) → wants d func args i given ≡ e → begun_after e (is_begun g.phase) ≡ true → i ≡ false
  outside_on given g Effect.Begin is h = let k = (going_now given g).at_begin is in k.0
  outside_on given g (Effect.End c) is h = cc
  outside_on given g e is h = g.outside h

  abbrev pub going_on : (given : List Answer) (a : Answer) (g : Going d func args i given) → Next i g.phase g.held (wants d func args i given) a (after (given ++ a ∷ [])) → Going d func args i (given ++ a ∷ [])
  going_on given a g n = record { phase = n.phase; held = n.held; flow = n.flow; outside = λ h. outside_on given g (wants d func args i given) refl (sym n.begun ∙ h) }

  going_rest : (given rest : List Answer) → Going d func args i given → Going d func args i (given ++ rest)
  going_rest given [] g = subst (Going d func args i) (sym (append-nil given)) g
  going_rest given (a ∷ rest) g = subst (Going d func args i) (append_assoc given (a ∷ []) rest) (going_rest (given ++ a ∷ []) rest (going_on given a g (going_next given a g)))

  pub going : (given : List Answer) → Going d func args i given
  going given = going_rest [] given at_first

  -- after a Begin comes no Begin
  pub begins_once : (given : List Answer) (a : Answer) → wants d func args i given ≡ Effect.Begin → wants d func args i (given ++ a ∷ []) ≡ Effect.Begin → ⊥
  begins_once given a is then_so =
      let g = going given in
      let n = going_next given a g in
      let k = (going_now (given ++ a ∷ []) (going_on given a g n)).at_begin then_so in
      let open_then = n.begun ∙ ap (λ e. begun_after e (is_begun g.phase)) is in
      let shut = sym open_then ∙ k.2 in cc

  -- an Abort is wanted inside alone, and after it neither a Begin nor an Abort
  pub aborts_inside : (given : List Answer) → wants d func args i given ≡ Effect.Abort → is_inside d func args i given ≡ true
  aborts_inside given is = (going_now given (going given)).at_abort is

  -- what is wanted after an abort: inside a transaction of its own its End, and else what ends the body
  pub dies_own : (given : List Answer) (c : Cause) (g : Going d func args i given) → is_begun g.phase ≡ true → ((b : Bool) → wants d func args i given ≡ Effect.End b → ⊥) → wants d func args i (given ++ Answer.Aborted c ∷ []) ≡ Effect.End false
  dies_own given c g inner other =
      let a = Answer.Aborted c in
      let n = going_next given a g in
      (going_now (given ++ a ∷ []) (going_on given a g n)).dying (n.dies c refl ((going_now given g).standing inner other) inner)

  pub dies_else : (given : List Answer) (c : Cause) (g : Going d func args i given) → is_begun g.phase ≡ false → stands true (wants d func args i given) ≡ true → is_unlock (wants d func args i given) ≡ false
      → (wants d func args i (given ++ Answer.Aborted c ∷ []) ≡ Effect.Return (Outcome.Aborted c)) ⊎ ((is_unlock (wants d func args i (given ++ Answer.Aborted c ∷ [])) ≡ true) × (held_after (wants d func args i given) g.held ≡ [] → ⊥))
  dies_else given c g outer fits other =
      let a = Answer.Aborted c in
      let n = going_next given a g in
      let k = n.ends c refl fits outer other in
      elim ((going_now (given ++ a ∷ []) (going_on given a g n)).ending (Outcome.Aborted c) k.0) [
        | inl e ↦ inl e
        | inr e ↦ inr (e.0, λ none. e.1 (k.1 ∙ none))
      ]

  pub aborts_once : (given : List Answer) (c : Cause) → wants d func args i given ≡ Effect.Abort → let e = wants d func args i (given ++ Answer.Aborted c ∷ []) in (e ≡ Effect.Begin ⊎ e ≡ Effect.Abort) → ⊥
  aborts_once given c is again =
      let g = going given in
      elim (is_begun g.phase) as (λ b. is_begun g.phase ≡ b → ⊥) [
        | true ↦ λ e. let k = dies_own given c g e (λ b f. let z = sym is ∙ f in cc) in elim again [ inl f ↦ let z = sym k ∙ f in cc | inr f ↦ let z = sym k ∙ f in cc ]
        | false ↦ λ e. elim (dies_else given c g e (ap (stands true) is) (ap is_unlock is)) [
          | inl k ↦ elim again [ inl f ↦ let z = sym k ∙ f in cc | inr f ↦ let z = sym k ∙ f in cc ]
          | inr k ↦ elim again [ inl f ↦ let z = sym (ap is_unlock f) ∙ k.0 in cc | inr f ↦ let z = sym (ap is_unlock f) ∙ k.0 in cc ]
        ]
      ] refl
