-- The entries that are no starts: what is read is the entry of the line, and the line of such an entry is read.
use Rattle.beldi_book.proofs.Names.{Deployment, Entry, IntentId, IsHolder, IsId, IsLineOf, IsProper, List, None, Option, Place, Read, Some, Start, Step, AbortedTx, CommittedTx, after, alone, ap, ap₂, arith, before, codes, decimal, entry_text, false, holder_at, holder_text, id_at, id_text, if◌then◌else◌, is_name, numeral_at, numeral_back, numeral_of, numeral_within, option_and_then, option_map, other_at, place_at, place_text, read_at, reads, refl, same_Some, same_text, small_at, subst, sym, true, abort_at, ℕ, ◌++◌, ◌-◌, ◌<◌, ◌^◌, ◌∙◌, ◌∷◌, ◌≡◌}
use Rattle.beldi_book.proofs.Cuts.{Parts, parts, joined, number_clear, id_clear, none_after, other_byte, id_proper}

-- what was bound
record Bound {A B : Type 0} (o : Option A) (f : A → Option B) (b : B) : Type 0 where
  a : A
  is : o ≡ Some a
  gives : f a ≡ Some b

bound : {A B : Type 0} (o : Option A) (f : A → Option B) (b : B) → option_and_then f o ≡ Some b → Bound o f b
bound None f b h = cc
bound (Some a) f b h = record { a = a; is = refl; gives = h }

-- ---- numbers, ids, places and holders
pub small_read : (n : ℕ) → n < 2 ^ 32 → small_at (decimal n) ≡ Some n
small_read n h = numeral_of (2 ^ 32 - 1) n (omega arith) (omega arith)

pub small_back : (n : ℕ) (bs : List ℕ) → small_at bs ≡ Some n → (decimal n ≡ bs) × (n < 2 ^ 32)
small_back n bs h = (numeral_back (2 ^ 32 - 1) n bs (omega arith) h, omega (arith, numeral_within (2 ^ 32 - 1) n bs h))

id_read : (id : IntentId) → IsId id → id_at (id_text id) ≡ Some id
id_read id h = reads id h.some h.small h.steps h.few

space_id : (id : IntentId) (rest : List ℕ) → IsId id → Parts 32 (id_text id) rest
space_id id rest h = parts 32 (id_text id) rest (id_clear 32 id (refl, refl) h)

place_read : (p : Place) → IsId p.intent → p.step < 2 ^ 32 → place_at (place_text p) ≡ Some p
place_read p h s =
    let q = parts 58 (id_text p.intent) (decimal p.step) (id_clear 58 p.intent (refl, refl) h) in
    rw q.back (rw q.front (rw (id_read p.intent h) (rw (small_read p.step s) refl)))

pub place_clear : (p : Place) → IsId p.intent → p.step < 2 ^ 32 → after 32 (place_text p) ≡ None
place_clear p h s = none_after 32 (id_text p.intent) (58 ∷ decimal p.step) (id_clear 32 p.intent (refl, refl) h) (other_byte 32 58 (decimal p.step) refl (number_clear 32 p.step refl (omega arith)))

place_back : (w : List ℕ) (p : Place) → place_at w ≡ Some p → (place_text p ≡ w) × IsId p.intent × (p.step < 2 ^ 32)
place_back w p h =
    let b = bound (after 58 w) _ p h in
    let c = bound (id_at (before 58 w)) _ p b.gives in
    let d = bound (small_at b.a) _ p c.gives in
    let n = small_back d.a b.a d.is in
    subst (λ (q : Place). (place_text q ≡ w) × IsId q.intent × (q.step < 2 ^ 32)) (same_Some (record { intent = c.a; step = d.a }) p d.gives)
    (ap₂ (λ x y. x ++ 58 ∷ y) (alone c.a (before 58 w) c.is) n.0 ∙ sym (joined 58 w b.a b.is), id_proper (before 58 w) c.a c.is, n.1)

-- an id is not `-`
holder_read : (h : Option IntentId) → IsHolder h → holder_at (holder_text h) ≡ Some h
holder_read None f = refl
holder_read (Some id) f = elim (is_name (id_text id) (codes "-")) as (λ t. is_name (id_text id) (codes "-") ≡ t → (if t then Some None else option_map (λ id. Some id) (id_at (id_text id))) ≡ Some (Some id)) [
  | true ↦ λ e. absurd (let g = sym (id_read id f) ∙ ap id_at (same_text (id_text id) (codes "-") (sym e)) in cc)
  | false ↦ λ e. ap (option_map (λ id. Some id)) (id_read id f)
] refl

holder_from : (w : List ℕ) (o : Option IntentId) (h : Option IntentId) → id_at w ≡ o → option_map (λ id. Some id) o ≡ Some h → (holder_text h ≡ w) × IsHolder h
holder_from w None h is e = cc
holder_from w (Some id) h is e = subst (λ (k : Option IntentId). (holder_text k ≡ w) × IsHolder k) (same_Some (Some id) h e) (alone id w is, id_proper w id is)

holder_back : (w : List ℕ) (h : Option IntentId) → holder_at w ≡ Some h → (holder_text h ≡ w) × IsHolder h
holder_back w h e = elim (is_name w (codes "-")) as (λ t. is_name w (codes "-") ≡ t → (if t then Some None else option_map (λ id. Some id) (id_at w)) ≡ Some h → (holder_text h ≡ w) × IsHolder h) [
  | true ↦ λ is g. subst (λ (k : Option IntentId). (holder_text k ≡ w) × IsHolder k) (same_Some None h g) (sym (same_text w (codes "-") (sym is)), tt)
  | false ↦ λ is g. holder_from w (id_at w) h refl g
] refl e

-- ---- the line of an entry is read
read_read : (id : IntentId) (version : ℕ) → IsId id → version < 2 ^ 64 → read_at (id_text id ++ 32 ∷ decimal version) ≡ Some (Read id version)
read_read id version h s =
    let p = space_id id (decimal version) h in
    rw p.back (rw p.front (rw (id_read id h) (rw (numeral_of (2 ^ 64 - 1) version s (omega arith)) refl)))

abort_read : (id : IntentId) (p : Place) (h : Option IntentId) → IsProper (AbortedTx id p h) → abort_at (id_text id ++ 32 ∷ (place_text p ++ 32 ∷ holder_text h)) ≡ Some (AbortedTx id p h)
abort_read id p h f =
    let a = space_id id (place_text p ++ 32 ∷ holder_text h) f.0 in
    let b = parts 32 (place_text p) (holder_text h) (place_clear p f.1 f.2) in
    rw a.back (rw b.back (rw a.front (rw (id_read id f.0) (rw b.front (rw (place_read p f.1 f.2) (rw (holder_read h f.3) refl))))))

pub other_read : (code : Deployment) (e : Entry) (word words : List ℕ) → IsProper e → word ≡ before 32 (entry_text code e) → after 32 (entry_text code e) ≡ Some words → is_name word (codes "start") ≡ false → other_at word words ≡ Some e
other_read code (Start t f a) word words h is more other = absurd (let g = sym other ∙ ap (λ w. is_name w (codes "start")) is in cc)
other_read code (Read id version) word words h is more other = ap₂ other_at is (sym (same_Some _ words more)) ∙ read_read id version h.0 h.1
other_read code (Step id) word words h is more other = ap₂ other_at is (sym (same_Some _ words more)) ∙ ap (option_map Step) (id_read id h)
other_read code (CommittedTx id) word words h is more other = ap₂ other_at is (sym (same_Some _ words more)) ∙ ap (option_map CommittedTx) (id_read id h)
other_read code (AbortedTx id p k) word words h is more other = ap₂ other_at is (sym (same_Some _ words more)) ∙ abort_read id p k h

-- ---- and what is read is the entry of the line
read_back : (code : Deployment) (words : List ℕ) (e : Entry) → read_at words ≡ Some e → IsLineOf code (codes "read " ++ words) e
read_back code words e h =
    let b = bound (after 32 words) _ e h in
    let c = bound (id_at (before 32 words)) _ e b.gives in
    let d = bound (numeral_at (2 ^ 64 - 1) b.a) _ e c.gives in
    subst (IsLineOf code (codes "read " ++ words)) (same_Some (Read c.a d.a) e d.gives) (record {
      text = ap (λ w. codes "read " ++ w) (joined 32 words b.a b.is ∙ sym (ap₂ (λ x y. x ++ 32 ∷ y) (alone c.a (before 32 words) c.is) (numeral_back (2 ^ 64 - 1) d.a b.a (omega arith) d.is)));
      proper = (id_proper (before 32 words) c.a c.is, let most = numeral_within (2 ^ 64 - 1) d.a b.a d.is in omega arith);
    })

abort_back : (code : Deployment) (words : List ℕ) (e : Entry) → abort_at words ≡ Some e → IsLineOf code (codes "try " ++ words) e
abort_back code words e h =
    let a = bound (after 32 words) _ e h in
    let b = bound (after 32 a.a) _ e a.gives in
    let c = bound (id_at (before 32 words)) _ e b.gives in
    let d = bound (place_at (before 32 a.a)) _ e c.gives in
    let g = bound (holder_at b.a) _ e d.gives in
    let place = place_back (before 32 a.a) d.a d.is in
    let holder = holder_back b.a g.a g.is in
    subst (IsLineOf code (codes "try " ++ words)) (same_Some (AbortedTx c.a d.a g.a) e g.gives) (record {
      text = ap (λ w. codes "try " ++ w) (joined 32 words a.a a.is ∙ sym (ap₂ (λ x y. x ++ 32 ∷ y) (alone c.a (before 32 words) c.is) (ap₂ (λ x y. x ++ 32 ∷ y) place.0 holder.0 ∙ sym (joined 32 a.a b.a b.is))));
      proper = (id_proper (before 32 words) c.a c.is, place.1, place.2, holder.1);
    })

-- a word and an id
one_id : (code : Deployment) (words : List ℕ) (e : Entry) (word : List ℕ) (make : IntentId → Entry) (o : Option IntentId) → ((id : IntentId) → entry_text code (make id) ≡ word ++ id_text id) → ((id : IntentId) → IsId id → IsProper (make id))
    → id_at words ≡ o → option_map make o ≡ Some e → IsLineOf code (word ++ words) e
one_id code words e word make None text proper is h = cc
one_id code words e word make (Some id) text proper is h = subst (IsLineOf code (word ++ words)) (same_Some (make id) e h) (record {
  text = ap (λ w. word ++ w) (sym (alone id words is)) ∙ sym (text id);
  proper = proper id (id_proper words id is);
})

-- by the word
pub other_back : (code : Deployment) (word words : List ℕ) (e : Entry) → other_at word words ≡ Some e → IsLineOf code (word ++ 32 ∷ words) e
other_back code word words e h =
    elim (is_name word (codes "read")) as (λ t. is_name word (codes "read") ≡ t → (if t then read_at words else not_read) ≡ Some e → IsLineOf code (word ++ 32 ∷ words) e) [
      | true ↦ λ is g. here (codes "read") is (read_back code words e g)
      | false ↦ λ _. elim (is_name word (codes "try")) as (λ t. is_name word (codes "try") ≡ t → (if t then abort_at words else not_abort) ≡ Some e → IsLineOf code (word ++ 32 ∷ words) e) [
        | true ↦ λ is g. here (codes "try") is (abort_back code words e g)
        | false ↦ λ _. elim (is_name word (codes "step")) as (λ t. is_name word (codes "step") ≡ t → (if t then option_map Step (id_at words) else not_step) ≡ Some e → IsLineOf code (word ++ 32 ∷ words) e) [
          | true ↦ λ is g. here (codes "step") is (one_id code words e (codes "step ") (λ id. Step id) (id_at words) (λ id. refl) (λ id p. p) refl g)
          | false ↦ λ _. elim (is_name word (codes "tx")) as (λ t. is_name word (codes "tx") ≡ t → (if t then option_map CommittedTx (id_at words) else None) ≡ Some e → IsLineOf code (word ++ 32 ∷ words) e) [
            | true ↦ λ is g. here (codes "tx") is (one_id code words e (codes "tx ") (λ id. CommittedTx id) (id_at words) (λ id. refl) (λ id p. p) refl g)
            | false ↦ λ _ g. cc
          ] refl
        ] refl
      ] refl
    ] refl h
  where
    not_step : Option Entry
    not_step = if is_name word (codes "tx") then option_map CommittedTx (id_at words) else None

    not_abort : Option Entry
    not_abort = if is_name word (codes "step") then option_map Step (id_at words) else not_step

    not_read : Option Entry
    not_read = if is_name word (codes "try") then abort_at words else not_abort

    here : (name : List ℕ) → is_name word name ≡ true → IsLineOf code (name ++ 32 ∷ words) e → IsLineOf code (word ++ 32 ∷ words) e
    here name is l = subst (λ w. IsLineOf code (w ++ 32 ∷ words) e) (sym (same_text word name (sym is))) l
