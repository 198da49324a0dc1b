-- Texts are read and refused as the grammar has it.
use Rattle.beldi_syntax.proofs.Names.{BlankRest, Bool, Deployment, Err, Holds, IsDeployment, List, None, Ok, Option, OutOfMemory, Parsed, Read, ReadsGrammar, Refused, Refuses, RefusesFirst, Result, Some, SyntaxErr, TooLarge, Utf8, What, [], ap, arith, bad, code_at, code_of, cond, drop, eqb-true, false, got, if◌then◌else◌, is_space, is_utf8, le-leb, leb-false, leb-true, length, length-prefix_len, lexemes, line_end, line_past, list_all, lt-leb, min, nat_le, next_line, no_script, not_blank, not_utf8, others, own, parsed, parsed_at, prefix_len, read_deployment, refl, script_at, subst, suc, sym, take, too_long, true, unless, utf8_valid_len, with_script, wrong_token, ℕ, ◌&&◌, ◌++◌, ◌+◌, ◌-◌, ◌==◌, ◌^◌, ◌∙◌, ◌∷◌, ◌≡◌}
use Rattle.beldi_syntax.proofs.{Lookahead.left_is, Lookahead.right_is, Sound.some_same, First.reads_tokens, First.refuses_tokens}

-- ---- the rest of the line

abbrev both : List ℕ → ℕ → List ℕ × ℕ
both script lines = (script, lines)

-- past the blanks
abbrev past : List ℕ → Option (List ℕ × ℕ)
past bs = line_end (drop (prefix_len is_space bs) bs)

at_past : (bs : List ℕ) → script_at bs ≡ past bs
at_past bs = ap (λ n. line_end (drop n bs)) (length-prefix_len is_space bs)

past_blank : (b : ℕ) (bs : List ℕ) → is_space b ≡ true → past (b ∷ bs) ≡ past bs
past_blank b bs h = ap (λ c. line_end (drop (cond c (1 + prefix_len is_space bs) 0) (b ∷ bs))) h ∙ ap (λ n. line_end (drop n (b ∷ bs))) (let e : 1 + prefix_len is_space bs ≡ suc (prefix_len is_space bs) = omega arith in e)

past_other : (b : ℕ) (bs : List ℕ) → is_space b ≡ false → past (b ∷ bs) ≡ line_end (b ∷ bs)
past_other b bs h = ap (λ c. line_end (drop (cond c (1 + prefix_len is_space bs) 0) (b ∷ bs))) h

past_blanks : (blanks bs : List ℕ) → list_all is_space blanks ≡ true → past (blanks ++ bs) ≡ past bs
past_blanks [] bs h = refl
past_blanks (b ∷ blanks) bs h = past_blank b (blanks ++ bs) (left_is (is_space b) (list_all is_space blanks) h) ∙ past_blanks blanks bs (right_is (is_space b) (list_all is_space blanks) h)

append_nil : (xs : List ℕ) → xs ++ [] ≡ xs
append_nil [] = refl
append_nil (x ∷ xs) = ap (λ ys. x ∷ ys) (append_nil xs)

of_rest : (bs script : List ℕ) (lines : ℕ) → BlankRest bs script lines → script_at bs ≡ Some (both script lines)
of_rest _ _ _ (no_script blanks h) = at_past blanks ∙ ap past (sym (append_nil blanks)) ∙ past_blanks blanks [] h
of_rest _ _ _ (next_line blanks script h) = at_past (blanks ++ 10 ∷ script) ∙ past_blanks blanks (10 ∷ script) h ∙ past_other 10 script refl

one_blank : (b : ℕ) (bs script : List ℕ) (lines : ℕ) → is_space b ≡ true → BlankRest bs script lines → BlankRest (b ∷ bs) script lines
one_blank b _ _ _ h (no_script blanks k) = no_script (b ∷ blanks) (ap (λ c. c && list_all is_space blanks) h ∙ k)
one_blank b _ _ _ h (next_line blanks script k) = next_line (b ∷ blanks) script (ap (λ c. c && list_all is_space blanks) h ∙ k)

pair_same : (a c : List ℕ) (b d : ℕ) → Some (both a b) ≡ Some (both c d) → (a ≡ c) × (b ≡ d)
pair_same a c b d e = let f = some_same (both a b) (both c d) e in (ap (λ p. p.0) f, ap (λ p. p.1) f)

ends_here : (b : ℕ) (bs script : List ℕ) (lines : ℕ) (t : Bool) → (b == 10) ≡ t → (if t then Some (both bs 1) else None) ≡ Some (both script lines) → BlankRest (b ∷ bs) script lines
ends_here b bs script lines true h e =
    let p = pair_same bs script 1 lines e in
    subst (λ l. BlankRest (b ∷ bs) script l) p.1 (subst (λ s. BlankRest (b ∷ bs) s 1) p.0 (subst (λ c. BlankRest (c ∷ bs) bs 1) (sym (eqb-true b 10 h)) (next_line [] bs refl)))
ends_here b bs script lines false h e = absurd (cc)

to_rest : (bs script : List ℕ) (lines : ℕ) → past bs ≡ Some (both script lines) → BlankRest bs script lines
to_rest [] script lines e =
    let p = pair_same [] script 0 lines e in subst (λ l. BlankRest [] script l) p.1 (subst (λ s. BlankRest [] s 0) p.0 (no_script [] refl))
to_rest (b ∷ bs) script lines e = elim (is_space b) as (λ t. is_space b ≡ t → BlankRest (b ∷ bs) script lines) [
  | true ↦ λ h. one_blank b bs script lines h (to_rest bs script lines (sym (past_blank b bs h) ∙ e))
  | false ↦ λ h. ends_here b bs script lines (b == 10) refl (sym (past_other b bs h) ∙ e)
] refl

-- ---- the parts of a text

-- what a text is read as, by what is found of its parts
abbrev with_rest : List ℕ → Option (List ℕ × ℕ) → Result Deployment SyntaxErr → Result Parsed SyntaxErr
with_rest bytes o (Ok code) = parsed bytes (own bytes) code o
with_rest bytes o (Err why) = Err why

abbrev found : List ℕ → Bool → Bool → Result Deployment SyntaxErr → Option (List ℕ × ℕ) → Result Parsed SyntaxErr
found bytes u z r o =
    with_rest bytes o
    (unless (if u then None else Some (line_past (take (utf8_valid_len (own bytes)) (own bytes)))) Utf8
    (unless (if z then None else Some (line_past (take 65536 (own bytes)))) TooLarge r))

same_rest : (bytes : List ℕ) (r : Result Deployment SyntaxErr) → with_script bytes (own bytes) (others bytes) r ≡ with_rest bytes (script_at (others bytes)) r
same_rest bytes (Ok code) = refl
same_rest bytes (Err why) = refl

-- it is read as its parts are found
as_found : (bytes : List ℕ) (u z : Bool) (r : Result Deployment SyntaxErr) (o : Option (List ℕ × ℕ)) → is_utf8 (own bytes) ≡ u → nat_le (length (own bytes)) 65536 ≡ z → code_of (read_deployment (lexemes 0 1 (own bytes))) ≡ r → script_at (others bytes) ≡ o
    → parsed_at bytes ≡ found bytes u z r o
as_found bytes u z r o h k l m =
    same_rest bytes (code_at (own bytes))
    ∙ ap (λ b. found bytes b (nat_le (length (own bytes)) 65536) (code_of (read_deployment (lexemes 0 1 (own bytes)))) (script_at (others bytes))) h
    ∙ ap (λ b. found bytes u b (code_of (read_deployment (lexemes 0 1 (own bytes)))) (script_at (others bytes))) k
    ∙ ap (λ q. found bytes u z q (script_at (others bytes))) l
    ∙ ap (λ q. found bytes u z r q) m

-- what is said of a text by what it is read as
abbrev Means : List ℕ → Result Parsed SyntaxErr → Type 0
Means bytes (Ok p) = Holds bytes p
Means bytes (Err OutOfMemory) = ⊥
Means bytes (Err (Refused line what)) = Refuses bytes line what

never_memory : (r : Read Deployment) → code_of r ≡ Err OutOfMemory → ⊥
never_memory (got c s) e = cc
never_memory (bad line what) e = cc

no_rest : (bs : List ℕ) → script_at bs ≡ None → (script : List ℕ) (lines : ℕ) → BlankRest bs script lines → ⊥
no_rest bs e script lines b = let f : None ≡ Some (both script lines) = sym e ∙ of_rest bs script lines b in cc

means : (bytes : List ℕ) (u z : Bool) (r : Result Deployment SyntaxErr) (o : Option (List ℕ × ℕ)) → is_utf8 (own bytes) ≡ u → nat_le (length (own bytes)) 65536 ≡ z → code_of (read_deployment (lexemes 0 1 (own bytes))) ≡ r → script_at (others bytes) ≡ o
    → Means bytes (found bytes u z r o)
means bytes false z r o h k l m = not_utf8 h
means bytes true false r o h k l m = too_long h (leb-false (length (own bytes)) 65536 k)
means bytes true true (Err OutOfMemory) o h k l m = never_memory (read_deployment (lexemes 0 1 (own bytes))) l
means bytes true true (Err (Refused line what)) o h k l m = wrong_token line what h (leb-true (length (own bytes)) 65536 k) ((refuses_tokens (own bytes) line what).0 l)
means bytes true true (Ok code) None h k l m = not_blank code (record { utf8 = h; small = leb-true (length (own bytes)) 65536 k; is = (reads_tokens (own bytes) code).0 l }) (no_rest (others bytes) m)
means bytes true true (Ok code) (Some s) h k l m = record {
  script = s.0;
  lines = s.1;
  code = record { utf8 = h; small = leb-true (length (own bytes)) 65536 k; is = (reads_tokens (own bytes) code).0 l };
  blank = to_rest (others bytes) s.0 s.1 (sym (at_past (others bytes)) ∙ m);
  rest = refl;
  line = refl;
}

all_said : (bytes : List ℕ) → Means bytes (parsed_at bytes)
all_said bytes =
    let r = code_of (read_deployment (lexemes 0 1 (own bytes))) in
    subst (Means bytes) (sym (as_found bytes (is_utf8 (own bytes)) (nat_le (length (own bytes)) 65536) r (script_at (others bytes)) refl refl refl refl))
    (means bytes (is_utf8 (own bytes)) (nat_le (length (own bytes)) 65536) r (script_at (others bytes)) refl refl refl refl)

-- the code of a deployment
reads_code : (bytes : List ℕ) (code : Deployment) → IsDeployment (own bytes) code → code_of (read_deployment (lexemes 0 1 (own bytes))) ≡ Ok code
reads_code bytes code d = (reads_tokens (own bytes) code).1 d.is

some_script : (bytes : List ℕ) (code : Deployment) → IsDeployment (own bytes) code → (o : Option (List ℕ × ℕ)) → script_at (others bytes) ≡ o → parsed_at bytes ≡ found bytes true true (Ok code) o
some_script bytes code d o e = as_found bytes true true (Ok code) o d.utf8 (le-leb (length (own bytes)) 65536 d.small) (reads_code bytes code d) e

holds : (bytes : List ℕ) (p : Parsed) → Holds bytes p → parsed_at bytes ≡ Ok p
holds bytes p h =
    some_script bytes p.code h.code (Some (both h.script h.lines)) (of_rest (others bytes) h.script h.lines h.blank)
    ∙ ap (λ n. Ok (record { code = p.code; rest = n; line = min (line_past (own bytes) + h.lines) (2 ^ 32 - 1) })) (sym h.rest)
    ∙ ap (λ n. Ok (record { code = p.code; rest = p.rest; line = n })) (sym h.line)

none_here : (bytes : List ℕ) → ((script : List ℕ) (lines : ℕ) → BlankRest (others bytes) script lines → ⊥) → (o : Option (List ℕ × ℕ)) → script_at (others bytes) ≡ o → o ≡ None
none_here bytes h None e = refl
none_here bytes h (Some s) e = absurd (h s.0 s.1 (to_rest (others bytes) s.0 s.1 (sym (at_past (others bytes)) ∙ e)))

refuses : (bytes : List ℕ) (line : ℕ) (what : What) → Refuses bytes line what → parsed_at bytes ≡ Err (Refused line what)
refuses bytes _ _ (not_utf8 h) = as_found bytes false (nat_le (length (own bytes)) 65536) (code_of (read_deployment (lexemes 0 1 (own bytes)))) (script_at (others bytes)) h refl refl refl
refuses bytes _ _ (too_long h k) = as_found bytes true false (code_of (read_deployment (lexemes 0 1 (own bytes)))) (script_at (others bytes)) h (lt-leb (length (own bytes)) 65536 k) refl refl
refuses bytes _ _ (wrong_token line what h k w) = as_found bytes true true (Err (Refused line what)) (script_at (others bytes)) h (le-leb (length (own bytes)) 65536 k) ((refuses_tokens (own bytes) line what).1 w) refl
refuses bytes _ _ (not_blank code d n) = some_script bytes code d None (none_here bytes n (script_at (others bytes)) refl)

ok_said : (bytes : List ℕ) (p : Parsed) → parsed_at bytes ≡ Ok p → Holds bytes p
ok_said bytes p e = subst (Means bytes) e (all_said bytes)

err_said : (bytes : List ℕ) (line : ℕ) (what : What) → parsed_at bytes ≡ Err (Refused line what) → Refuses bytes line what
err_said bytes line what e = subst (Means bytes) e (all_said bytes)

pub reads_the_grammar : ReadsGrammar
reads_the_grammar bytes p = (ok_said bytes p, holds bytes p)

pub refuses_first : RefusesFirst
refuses_first bytes line what = (err_said bytes line what, refuses bytes line what)
