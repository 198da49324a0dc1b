-- A list that is read item by item.
use Rattle.std.proofs.Common.{◌≡◌, ℕ, Option, Some, None, List, [], ◌∷◌, ◌++◌, refl, sym, ap, subst, ◌∙◌, append_assoc}
use Rattle.std.proofs.lemmas.List.{append-nil}
use Rattle.beldi_bytes.specs.declared.cursor.ReadErr.{ReadErr}
use Rattle.beldi_bytes.specs.Coding.{Refuses}
use Rattle.beldi_bytes.proofs.Exact.{Exact}
use Rattle.beldi_bytes.proofs.Refused.{refused}

-- `done` was read off `old`, and `left` is left: with what it is the front of, `done` makes what `old` has, and nothing else does
pub record Midway (U : Type 0) (put : List U → List ℕ → List ℕ) (Is : List U → Type 0) (old left : List ℕ) (done : List U) : Type 0 where
  pub on : (u : List U) (s : List ℕ) → left ≡ put u s → old ≡ put (done ++ u) s
  pub back : (v : List U) (s : List ℕ) → Is v → old ≡ put v s → (u : List U) × (done ++ u ≡ v) × (left ≡ put u s)

module _ {U : Type 0} (put : List U → List ℕ → List ℕ) (Is : List U → Type 0) where
  pub begun : (old : List ℕ) → Midway U put Is old old []
  begun old = record { on = λ u s e. e; back = λ v s i e. (v, refl, e) }

  -- one item more
  pub next : (old left new : List ℕ) (done : List U) (x : U) → Midway U put Is old left done
      → ((u : List U) (s : List ℕ) → new ≡ put u s → left ≡ put (x ∷ u) s)
      → ((u : List U) (s : List ℕ) → Is (done ++ u) → left ≡ put u s → (w : List U) × (u ≡ x ∷ w) × (new ≡ put w s))
      → Midway U put Is old new (done ++ x ∷ [])
  next old left new done x m f g = record {
    on = λ u s e. m.on (x ∷ u) s (f u s e) ∙ ap (λ v. put v s) (sym (append_assoc done (x ∷ []) u));
    back = λ v s i e.
        let p = m.back v s i e in
        let q = g p.0 s (subst Is (sym p.1) i) p.2 in
        (q.0, append_assoc done (x ∷ []) q.0 ∙ ap (λ u. done ++ u) (sym q.1) ∙ p.1, q.2);
  }

  -- all was read
  pub whole : (old left new : List ℕ) (done : List U) → Midway U put Is old left done → left ≡ put [] new → old ≡ put done new
  whole old left new done m e = m.on [] new e ∙ ap (λ v. put v new) (append-nil done)

  -- what the next item needs is refused
  pub stopped : {A : Type 0} (p : A → List ℕ → List ℕ) (P : A → Type 0) (old left mid : List ℕ) (done : List U) (why : ReadErr) → Midway U put Is old left done
      → Refuses p P mid why → ((u : List U) (s : List ℕ) → Is (done ++ u) → left ≡ put u s → (a : A) × (t : List ℕ) × P a × (mid ≡ p a t)) → Refuses put Is old why
  stopped p P old left mid done why m h f = refused p P put Is old mid why h (λ v s i e.
      let q = m.back v s i e in
      f q.0 s (subst Is (sym q.1) i) q.2)

-- a list whose items each stand behind a mark, and whose end has one
module _ {U : Type 0} (put : List U → List ℕ → List ℕ) (mark : Option U → List ℕ → List ℕ) (Is : List U → Type 0) (exact : Exact mark)
    (at_end : (s : List ℕ) → put [] s ≡ mark None s) (at_item : (x : U) (u : List U) (s : List ℕ) → put (x ∷ u) s ≡ mark (Some x) (put u s)) where
  marked : (x : U) (left new : List ℕ) → left ≡ mark (Some x) new → (u : List U) (s : List ℕ) → left ≡ put u s → (w : List U) × (u ≡ x ∷ w) × (new ≡ put w s)
  marked x left new h [] s e = let p = exact (Some x) None new s (sym h ∙ e ∙ at_end s) in cc
  marked x left new h (y ∷ w) s e =
      let p = exact (Some x) (Some y) new (put w s) (sym h ∙ e ∙ at_item y w s) in
      let q : y ≡ x = cc in
      (w, ap (λ z. z ∷ w) q, p.1)

  pub next_marked : (old left new : List ℕ) (done : List U) (o : Option U) (x : U) → Midway U put Is old left done → left ≡ mark o new → o ≡ Some x → Midway U put Is old new (done ++ x ∷ [])
  next_marked old left new done o x m e is = let h : left ≡ mark (Some x) new = e ∙ ap (λ p. mark p new) is in next put Is old left new done x m (λ u s e. h ∙ ap (mark (Some x)) e ∙ sym (at_item x u s)) (λ u s i e. marked x left new h u s e)

  pub whole_marked : (old left new : List ℕ) (done : List U) (o : Option U) → Midway U put Is old left done → left ≡ mark o new → o ≡ None → old ≡ put done new
  whole_marked old left new done o m e is = whole put Is old left new done m (e ∙ ap (λ p. mark p new) is ∙ sym (at_end new))

  -- at the mark itself
  some_mark : (left : List ℕ) (u : List U) (s : List ℕ) → left ≡ put u s → (o : Option U) × (t : List ℕ) × (left ≡ mark o t)
  some_mark left [] s e = (None, s, e ∙ at_end s)
  some_mark left (x ∷ u) s e = (Some x, put u s, e ∙ at_item x u s)

  pub stopped_marked : (P : Option U → Type 0) → ((o : Option U) → P o) → (old left : List ℕ) (done : List U) (why : ReadErr) → Midway U put Is old left done
      → Refuses mark P left why → Refuses put Is old why
  stopped_marked P any old left done why m h = stopped put Is mark P old left left done why m h (λ u s i e. let q = some_mark left u s e in (q.0, q.1, any q.0, q.2))
