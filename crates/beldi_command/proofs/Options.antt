-- What a word is, after `serve`: one of the two options, an option with its value, or neither, and then `clap` knows no such option.
use Rattle.std.specs.{List.position_or_len}
use Rattle.clap.specs.{Lexer.long_of, Lexer.long_of_rest, Lexer.name_and_value, Lexer.strip_byte, Walk.Rule, Walk.Text, Walk.arg_by_long}
use Rattle.clap.specs.Simple.{filled}
use Rattle.std.proofs.Common.{◌≡◌, ◌⊎◌, inl, inr, ◌==◌, ◌+◌, ℕ, suc, Bool, true, false, List, [], ◌∷◌, ◌++◌, Option, Some, None, option_and_then, bytes_eq, codes, arith, refl, sym, ap, ap₂, subst, ◌∙◌, append-nil, if◌then◌else◌}
use Rattle.std.proofs.lemmas.{Bool.eqb-true, Slice.Eq.bytes_eq-Decides}
use Rattle.beldi_command.specs.{CommandLine.behind, CommandLine.option_first, Parser.wanted}

-- one of the options, and its word
abbrev pub named : Bool → Text
named true = codes "port"
named false = codes "requests"

abbrev pub dashed : Bool → Text
dashed o = 45 ∷ 45 ∷ named o

abbrev pub rule : Bool → Rule
rule o = filled (wanted (named o))

abbrev pub options : List Rule
options = rule true ∷ rule false ∷ []

module _ {A B : Type 0} (f : A → Option B) where
  from_some : (o : Option A) (y : B) → option_and_then f o ≡ Some y → (x : A) × (o ≡ Some x) × (f x ≡ Some y)
  from_some None y e = absurd (cc)
  from_some (Some x) y e = (x, refl, e)

-- what a word says behind a front of it
behind_is : (front word t : Text) → behind front word ≡ Some t → word ≡ front ++ t
behind_is [] word t e = cc
behind_is (b ∷ front) [] t e = absurd (cc)
behind_is (b ∷ front) (x ∷ word) t e = by_test (x == b) refl (behind_is front word t) e where
  by_test : (c : Bool) → (x == b) ≡ c → (behind front word ≡ Some t → word ≡ front ++ t) → (if c then behind front word else None) ≡ Some t → x ∷ word ≡ b ∷ front ++ t
  by_test true is below h = ap₂ (λ (a : ℕ) (l : Text). a ∷ l) (eqb-true x b is) (below h)
  by_test false is below h = absurd (cc)

stripped : (c : ℕ) (word t : Text) → strip_byte c word ≡ Some t → word ≡ c ∷ t
stripped c [] t e = absurd (cc)
stripped c (x ∷ word) t e = by_test (x == c) refl e where
  by_test : (b : Bool) → (x == c) ≡ b → (if b then Some word else None) ≡ Some t → x ∷ word ≡ c ∷ t
  by_test true is h = let same : x ≡ c = eqb-true x c is in cc
  by_test false is h = absurd (cc)

-- a value behind `=`, if there is one
abbrev said : Option Text → Text
said None = []
said (Some v) = 61 ∷ v

-- a text is its name and its value
cut : (t : Text) → t ≡ (name_and_value t).0 ++ said (name_and_value t).1
cut [] = refl
cut (x ∷ xs) = by_test (x == 61) refl (cut xs) where
  n : ℕ
  n = position_or_len (λ b. b == 61) xs

  by_test : (b : Bool) → (x == 61) ≡ b → xs ≡ (name_and_value xs).0 ++ said (name_and_value xs).1 → x ∷ xs ≡ (name_and_value (x ∷ xs)).0 ++ said (name_and_value (x ∷ xs)).1
  by_test true is below = rw is (ap (λ (a : ℕ). a ∷ xs) (eqb-true x 61 is))
  by_test false is below =
      let one : 1 + n ≡ suc n = omega arith in
      let two : suc n + 1 ≡ suc (n + 1) = omega arith in
      rw (is, one, two) (ap (λ (t : Text). x ∷ t) below)

by_rest : (rest : Text) (p : Text × Option Text) → long_of_rest rest ≡ Some p → rest ≡ p.0 ++ said p.1
by_rest [] p h = absurd (cc)
by_rest (x ∷ xs) p h = let same : name_and_value (x ∷ xs) ≡ p = cc in subst (λ (q : Text × Option Text). x ∷ xs ≡ q.0 ++ said q.1) same (cut (x ∷ xs))

long_is : (word : Text) (p : Text × Option Text) → long_of word ≡ Some p → word ≡ 45 ∷ 45 ∷ p.0 ++ said p.1
long_is word p e =
    let outer = from_some long_of_rest _ p e in
    let inner = from_some (strip_byte 45) _ outer.0 outer.1 in
    stripped 45 word inner.0 inner.1 ∙ ap (λ (t : Text). 45 ∷ t) (stripped 45 inner.0 outer.0 inner.2 ∙ ap (λ (t : Text). 45 ∷ t) (by_rest outer.0 p outer.2))

-- neither of the options
abbrev pub IsOther : Text → Type 0
IsOther word = ((rest : List Text) → option_first (dashed true) (word ∷ rest) ≡ None) × ((rest : List Text) → option_first (dashed false) (word ∷ rest) ≡ None)
    × (option_and_then (λ p. arg_by_long options p.0) (long_of word) ≡ None)

abbrev pub IsWord : Text → Type 0
IsWord word = ((o : Bool) × (word ≡ dashed o)) ⊎ (((o : Bool) × (v : Text) × (word ≡ dashed o ++ 61 ∷ v)) ⊎ IsOther word)

gives_one : (o : Bool) (v : Option Text) → option_first (dashed o) ((45 ∷ 45 ∷ named o ++ said v) ∷ [] ∷ []) ≡ None → ⊥
gives_one true None e = cc
gives_one true (Some v) e = cc
gives_one false None e = cc
gives_one false (Some v) e = cc

module _ (word : Text) where
  not_named : (o : Bool) (p : Text × Option Text) → long_of word ≡ Some p → option_first (dashed o) (word ∷ [] ∷ []) ≡ None → (b : Bool) → bytes_eq (named o) p.0 ≡ b → b ≡ false
  not_named o p e none false is = refl
  not_named o p e none true is =
      let name : named o ≡ p.0 = (bytes_eq-Decides (named o) p.0).0 is in
      let same : word ≡ 45 ∷ 45 ∷ named o ++ said p.1 = long_is word p e ∙ ap (λ (t : Text). 45 ∷ 45 ∷ t ++ said p.1) (sym name) in
      absurd (gives_one o p.1 (subst (λ (w : Text). option_first (dashed o) (w ∷ [] ∷ []) ≡ None) same none))

  unknown : (o : Option (Text × Option Text)) → long_of word ≡ o → option_first (dashed true) (word ∷ [] ∷ []) ≡ None → option_first (dashed false) (word ∷ [] ∷ []) ≡ None
      → option_and_then (λ p. arg_by_long options p.0) o ≡ None
  unknown None e no_port no_requests = refl
  unknown (Some p) e no_port no_requests =
      let port : bytes_eq (codes "port") p.0 ≡ false = not_named true p e no_port _ refl in
      let requests : bytes_eq (codes "requests") p.0 ≡ false = not_named false p e no_requests _ refl in
      rw (port, requests) refl

  abbrev IsOf : Bool → Type 0
  IsOf o = (word ≡ dashed o) ⊎ (((v : Text) × (word ≡ dashed o ++ 61 ∷ v)) ⊎ ((rest : List Text) → option_first (dashed o) (word ∷ rest) ≡ None))

  by_next : (o : Bool) (b : ℕ) (v : Text) → behind (dashed o) word ≡ Some (b ∷ v) → (t : Bool) → (b == 61) ≡ t → IsOf o
  by_next o b v e true is = inr (inl (v, behind_is (dashed o) word (b ∷ v) e ∙ ap (λ (a : ℕ). dashed o ++ a ∷ v) (eqb-true b 61 is)))
  by_next o b v e false is = inr (inr (λ rest. rw (e, is) refl))

  by_behind : (o : Bool) (b : Option Text) → behind (dashed o) word ≡ b → IsOf o
  by_behind o None e = inr (inr (λ rest. rw e refl))
  by_behind o (Some []) e = inl (behind_is (dashed o) word [] e ∙ append-nil (dashed o))
  by_behind o (Some (b ∷ v)) e = by_next o b v e (b == 61) refl

  pub word_is : IsWord word
  word_is = elim (by_behind true _ refl) [
    | inl e ↦ inl (true, e)
    | inr (inl e) ↦ inr (inl (true, e.0, e.1))
    | inr (inr no_port) ↦ elim (by_behind false _ refl) [
      | inl e ↦ inl (false, e)
      | inr (inl e) ↦ inr (inl (false, e.0, e.1))
      | inr (inr no_requests) ↦ inr (inr (no_port, no_requests, unknown _ refl (no_port ([] ∷ [])) (no_requests ([] ∷ []))))
    ]
  ]
