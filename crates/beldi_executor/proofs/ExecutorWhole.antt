-- A transaction as a whole: from its begin, and what its call answers.
use Rattle.beldi_plain.specs.Transaction.{enough}
use Rattle.beldi_executor.proofs.Names.{Actor, Acts, Bar, Bool, Comes, Deployment, Draft, Err, GoesOn, Going, Instance, IntentId, IsDraft, IsReady, CallStack, Machine, NoPlace, None, NotEnabled, NotOlder, Ok, Option, OutOfMemory, CommittedSo, Place, PlainErr, PlainState, Some, AbortedSo, TxId, [], after, all_back, all_gone, ap, at_instance, bar_holder, bar_no, ends_on, false, id_total, if◌then◌else◌, is_holder, no_end, opened, option_and_then, refl, visible, subst, sym, true, abort_of, abort_on, tx_begun, wants_answer, with_answers, with_instance, ◌∙◌, ◌≡◌, Answer, Effect}
use Rattle.beldi_executor.proofs.{Finite.apart, Finite.there, Drafts.first_draft, Drafts.same_id, Drafts.same_instance, Drafts.others_kept, Drafts.answers_stay, CallStacks.acts_ready, CallStacks.ready_acts, CallStacks.its_step}
use Rattle.beldi_executor.proofs.Names.map

-- who begins it
abbrev pub owner_of : IntentId → Instance → Machine → Actor
owner_of id q m = record { id = id; func = q.func; machine = m }

abbrev pub draft_of : Actor → Draft
draft_of a = record { tx = record { intent = a.id; begin = a.machine.steps; func = a.func }; undo = []; members = []; waiting = [] }

-- the active owner and its draft, where the transaction begins
pub record Opens (d : Deployment) (p : PlainState) (id : IntentId) (q : Instance) (a : Actor) (h : Draft) : Type 0 where
  pub goes : GoesOn d (tx_begun id q) p q p h a
  pub begins : a.machine.effect ≡ Effect.Begin
  pub here : map.get p.made a.id ≡ Some q
  pub start : after p h a q Answer.Done ≡ opened p id q

pub opens : {d : Deployment} {p : PlainState} {id : IntentId} {m : Machine} {a : Actor} {h : Draft} (q : Instance) → IsReady d p id m × (m.effect ≡ Effect.Begin) → map.get p.made id ≡ Some q → a ≡ owner_of id q m → h ≡ draft_of a → Opens d p id q a h
opens {d} {p} {id} {m} {a} {h} q (ready, begins) here owner first =
    let t = tx_begun id q in
    let acts : Acts d p (owner_of id q m) = ready_acts d p (owner_of id q m) ready (ap wants_answer begins) (λ z is. ap (λ (i : Instance). i.func) (same_instance (map.get p.made id) q z here is)) in
    let draft : h ≡ record { tx = t; undo = []; members = []; waiting = [] } =
    first ∙ ap draft_of owner ∙ (λ i. record { tx = record { intent = id; begin = its_step d p (owner_of id q m) acts q here i; func = q.func }; undo = []; members = []; waiting = [] }) in
    subst (λ (a : Actor). Opens d p id q a h) (sym owner) (record {
      goes = record { draft = first_draft t p q h here draft; acts = acts; stack = subst (λ (h : Draft). CallStack d t p h.members id h.waiting) (sym draft) refl };
      begins = begins;
      here = here;
      start = ap (λ (k : Draft). after p k (owner_of id q m) q Answer.Done) draft;
    })

-- ---- what it comes to

pub comes_draft : (d : Deployment) (t : TxId) (p : PlainState) (q : Instance) (h : Draft) (o : Option PlainState) (b : Bar) (r : PlainState) (why : PlainErr) → Comes d t p q h o b r (Err why) → IsDraft t p q r h
comes_draft d t p q h o b r OutOfMemory c = c
comes_draft d t p q h o b r (NotEnabled x) c = c.0

module _ (d : Deployment) (p : PlainState) (id : IntentId) (q : Instance) (h : Draft) (g : Going) (start : g ≡ opened p id q) where
  abbrev begun : TxId
  begun = tx_begun id q

  ready_so : (r s : PlainState) (a : Actor) → Acts d r a → a.id ≡ id → s.made ≡ r.made → IsReady d s id a.machine
  ready_so r s a x is made = subst (λ i. IsReady d s i a.machine) is (acts_ready d s a (record { instance = x.instance; made = ap (λ m. map.get m a.id) made ∙ x.made; yet = x.yet; func = x.func; stands = x.stands }))

  pub committed_so_ok : (r s : PlainState) (a : Actor) → Comes d begun p q h (ends_on d enough begun true g) (no_end true) r (Ok a) → s ≡ visible r h.undo → CommittedSo d p id q s (Ok a)
  committed_so_ok r s a c is = (
    ready_so r s a c.0.acts c.1 (ap (λ (n : PlainState). n.made) is),
    c.1,
    ap (ends_on d enough begun true) (sym start) ∙ c.2 ∙ ap (λ n. Some n) (sym is),
    others_kept begun p q r h c.0.draft s (ap (λ (n : PlainState). n.made) is),
  )

  pub committed_so_err : (r s : PlainState) (why : PlainErr) → Comes d begun p q h (ends_on d enough begun true g) (no_end true) r (Err why) → (IsDraft begun p q r h → s ≡ p) → CommittedSo d p id q s (Err why)
  committed_so_err r s OutOfMemory c back = back c
  committed_so_err r s (NotEnabled b) c back = (back c.0, ap (ends_on d enough begun true) (sym start) ∙ c.1, c.2)

  module _ (at : Place) (hold : Option IntentId) where
    abort_so : abort_of d p id q at hold ≡ abort_on d enough begun at hold g
    abort_so = ap (abort_on d enough begun at hold) (sym start)

    nothing_aborted_so : (b : Bool) (f : PlainState → Option PlainState) → (if b then option_and_then f None else None) ≡ None
    nothing_aborted_so true f = refl
    nothing_aborted_so false f = refl

    pub aborted_so_err : (r s : PlainState) (why : PlainErr) → Comes d begun p q h (abort_on d enough begun at hold g) (no_end false) r (Err why) → (IsDraft begun p q r h → s ≡ p) → AbortedSo d p id q at hold s (Err why)
    aborted_so_err r s OutOfMemory c back = back c
    aborted_so_err r s (NotEnabled b) c back =
        let none = abort_so ∙ c.1 in (
          back c.0,
          ap (λ o. if is_holder p id hold then option_and_then (with_answers p id) o else None) none ∙ nothing_aborted_so (is_holder p id hold) (with_answers p id),
          ap (λ o. bar_no NoPlace o (bar_holder (is_holder p id hold))) none ∙ ap (λ b. Some b) (sym c.2),
        )

    pub not_older : (r s : PlainState) (a : Actor) → Comes d begun p q h (abort_on d enough begun at hold g) (no_end false) r (Ok a) → is_holder p id hold ≡ false → s ≡ p → AbortedSo d p id q at hold s (Err (NotEnabled NotOlder))
    not_older r s a c young back = (
      back,
      ap (λ b. if b then option_and_then (with_answers p id) (abort_of d p id q at hold) else None) young,
      ap (λ o. bar_no NoPlace o (bar_holder (is_holder p id hold))) (abort_so ∙ c.2) ∙ ap bar_holder young,
    )

    pub aborted_so_ok : (r s : PlainState) (a : Actor) → Comes d begun p q h (abort_on d enough begun at hold g) (no_end false) r (Ok a) → is_holder p id hold ≡ true → s ≡ record { items = all_back r.items h.undo; made = all_gone r.made h.members } → AbortedSo d p id q at hold s (Ok a)
    aborted_so_ok r s a c old is =
        let x = c.0.acts.instance in
        let here : map.get r.made id ≡ Some x = ap (map.get r.made) (sym c.1) ∙ c.0.acts.made in
        let stays : s ≡ with_instance p id x = answers_stay begun p q r h c.0.draft x s here (ap (λ (n : PlainState). n.items) is) (ap (λ (n : PlainState). n.made) is) in (
          subst (λ (n : PlainState). IsReady d n id a.machine) (sym stays) (subst (λ i. IsReady d (with_instance p id x) i a.machine) c.1 (acts_ready d (with_instance p id x) a (record { instance = x; made = at_own x a.id c.1; yet = c.0.acts.yet; func = c.0.acts.func; stands = c.0.acts.stands }))),
          c.1,
          ap (λ b. if b then option_and_then (with_answers p id) (abort_of d p id q at hold) else None) old
              ∙ ap (option_and_then (with_answers p id)) (abort_so ∙ c.2)
              ∙ ap (λ o. at_instance o (λ q. Some (with_instance p id q))) here
              ∙ ap (λ n. Some n) (sym stays),
          ap (λ o. bar_no NoPlace o (bar_holder (is_holder p id hold))) (abort_so ∙ c.2) ∙ ap bar_holder old,
          λ j off has. ap (λ (n : PlainState). map.get n.made j) stays ∙ apart id_total p.made id j x off,
        )
      where
        at_own : (x : Instance) (i : IntentId) → i ≡ id → map.get (with_instance p id x).made i ≡ Some x
        at_own x i is = ap (map.get (with_instance p id x).made) is ∙ there id_total p.made id id x (same_id id)
