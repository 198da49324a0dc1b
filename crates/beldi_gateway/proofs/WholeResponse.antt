-- One exchange, from its parts: what was gathered, what was answered, and what was written.
use Rattle.beldi_gateway.proofs.Names.{Bool, Broken, Connections, Decided, EndsAt, HeadGathers, IsPrefixOf, Keeps, List, Lost, Moves, Ok, Option, Replied, Response, Scan, Whole, [], ap, append-nil, arith, false, inl, inr, length, refl, response_bytes, status_of, subst, true, ℕ, ◌++◌, ◌<◌, ◌∷◌, ◌≡◌, ◌⊎◌}
use Rattle.beldi_gateway.proofs.Moves.{moves_then, ends_then, ended_stays}

-- the head is not over, and fewer bytes came than it may have: the connection ended
head_ended : (s : Scan) (x : List ℕ) (a b : Option Connections) → ((s.over ≡ true) ⊎ ((length x ≡ 16384) ⊎ EndsAt a b)) → s.over ≡ false → length x < 16384 → EndsAt a b
head_ended s x a b (inl over) going short = absurd (both s.over over going)
  where
    both : (o : Bool) → o ≡ true → o ≡ false → ⊥
    both true p q = cc
    both false p q = cc
head_ended s x a b (inr (inl full)) going short = absurd (omega (arith, full, short))
head_ended s x a b (inr (inr ends)) going short = ends

module _ {D : Type 0} (funcs : List ℕ → Option ℕ) (keeps : Keeps D) where
  ends_all : (s : Scan) (x took : List ℕ) (a b c : Option Connections) → HeadGathers a b x (Ok s) → Moves took [] b c
      → (EndsAt b c ⊎ ((took ≡ []) × (s.over ≡ false) × (length x < 16384))) → EndsAt a c
  ends_all s x took a b c g m (inl e) = ends_then a b c x [] g.0 e
  ends_all s x took a b c g m (inr p) = ended_stays took [] a b c (head_ended s x a b g.4 p.1 p.2) m

  -- the response is decided by all bytes that were taken, also once something was written
  pub decided : (s : Scan) (x wrote : List ℕ) (before after : D) (a b c d : Option Connections) (r : Response) → HeadGathers a b x (Ok s) → (h : Replied funcs keeps s x before after b c r)
      → Moves [] wrote c d → Decided funcs keeps before after a d (x ++ h.took) r
  decided s x wrote before after a b c d r g h m = record {
    comes = h.comes;
    exchange = h.exchange;
    ends = λ e. ended_stays [] wrote a c d (ends_all s x h.took a b c g h.moves (h.ends e)) m;
    answered = h.answered;
  }

  all_moves : (x took wrote : List ℕ) (a b c d : Option Connections) → Moves x [] a b → Moves took [] b c → Moves [] wrote c d → Moves (x ++ took) wrote a d
  all_moves x took wrote a b c d p q r =
      subst (λ z. Moves z wrote a d) (append-nil (x ++ took)) (moves_then (x ++ took) [] [] wrote a c d (moves_then x [] took [] a b c p q) r)

  some_bytes : (x y : List ℕ) → ¬ (x ≡ []) → ¬ (x ++ y ≡ [])
  some_bytes [] y f e = f refl
  some_bytes (b ∷ x) y f e = omega (arith, ap length e)

  pub whole : (s : Scan) (x : List ℕ) (before after : D) (a b c d : Option Connections) (r : Response) (n : ℕ) → HeadGathers a b x (Ok s) → ¬ (x ≡ []) → Replied funcs keeps s x before after b c r
      → n ≡ status_of r → Moves [] (response_bytes r) c d → Whole funcs keeps before after a d n
  whole s x before after a b c d r n g some h is m = record {
    took = x ++ h.took;
    some = some_bytes x h.took some;
    response = r;
    decided = decided s x (response_bytes r) before after a b c d r g h m;
    is = is;
    moves = all_moves x h.took (response_bytes r) a b c d g.0 h.moves m;
  }

  pub front : (s : Scan) (x wrote : List ℕ) (before after : D) (a b c d : Option Connections) (r : Response) → HeadGathers a b x (Ok s) → Replied funcs keeps s x before after b c r
      → IsPrefixOf wrote (response_bytes r) → Moves [] wrote c d → Broken funcs keeps before after a d
  front s x wrote before after a b c d r g h p m = inr (record {
    took = x ++ h.took;
    wrote = wrote;
    response = r;
    decided = decided s x wrote before after a b c d r g h m;
    front = p;
    moves = all_moves x h.took wrote a b c d g.0 h.moves m;
  })

  pub lost : (s : Scan) (x : List ℕ) (before after : D) (a b c : Option Connections) → HeadGathers a b x (Ok s) → (after ≡ before) × Lost b c → Broken funcs keeps before after a c
  lost s x before after a b c g h = inl (record { took = x ++ h.1.0; same = h.0; moves = moves_then x [] h.1.0 [] a b c g.0 h.1.1 })
