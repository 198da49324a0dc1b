-- What begins with a token, and what the first token of a level too many breaks.
use Rattle.beldi_syntax.proofs.Names.{Act, Bool, Deployment, END, End, INT, IsToken, Lexeme, List, Marked, NAME, Name, None, Number, Of, OfNumber, OneOf, Option, Place, Rule, Some, Symbol, TEXT, Text, Token, TooDeep, TooLarge, What, [], ap, arith, block, by, end_token, eqb-true, expr, false, if◌then◌else◌, inl, inr, is_long, is_outside, is_sign, leb-zero, limit, lt-leb, map, marked, means, name_token, nat_le, not, number_token, past_token, phrase, place, refl, rules, subst, suc, sym, text_token, token, true, word, zero, ℕ, ◌&&◌, ◌++◌, ◌+◌, ◌-◌, ◌<◌, ◌==◌, ◌^◌, ◌||◌, ◌∙◌, ◌∷◌, ◌≡◌}
use Rattle.beldi_syntax.proofs.Lookahead.{Gives, fit, is_wide, of_rules, firsts_in, like, one_of, among, firsts, nullable, left_is, right_is, is_not, or_cases, never_both, is_that}
use Rattle.beldi_syntax.proofs.Fill.{fills}

-- ---- some derivation begins with a token

pub record Starting (cs : List Place) (k : Act cs Deployment) (t : Lexeme) : Type 0 where
  pub mark : Option What
  pub more : List Marked
  pub code : Deployment
  pub yields : Gives cs k (marked mark t ∷ more) code

begin_token : (n : ℕ) (a : Symbol) (t : Lexeme) (x : Of a) → IsToken a t x → (es : List Place) (k : Of a → Act es Deployment) → Starting (place n a ∷ es) k t
begin_token n a t x i es k = record {
  mark = limit n a t.token;
  more = (fills es (k x)).us;
  code = (fills es (k x)).code;
  yields = token n a es k (marked (limit n a t.token) t) x (fills es (k x)).us (fills es (k x)).code i refl (fills es (k x)).yields;
}

only_or : (b : Bool) → (b || false) ≡ true → b ≡ true
only_or true h = refl
only_or false h = h

begin_name : (n : ℕ) (t : Lexeme) (c : Token) → t.token ≡ c → name_token c ≡ true → (es : List Place) (k : List ℕ → Act es Deployment) → Starting (place n NAME ∷ es) k t
begin_name n t (Name v) e h es k = begin_token n NAME t v e es k
begin_name n t c e h es k = absurd (cc)

begin_int : (n least most : ℕ) (t : Lexeme) (c : Token) → t.token ≡ c → number_token c ≡ true → (es : List Place) (k : ℕ → Act es Deployment) → Starting (place n (INT least most) ∷ es) k t
begin_int n least most t (Number None) e h es k = begin_token n (INT least most) t 0 (inr e) es k
begin_int n least most t (Number (Some m)) e h es k = begin_token n (INT least most) t m (inl e) es k
begin_int n least most t c e h es k = absurd (cc)

begin_text : (n : ℕ) (t : Lexeme) (c : Token) → t.token ≡ c → text_token c ≡ true → (es : List Place) (k : List ℕ → Act es Deployment) → Starting (place n TEXT ∷ es) k t
begin_text n t (Text None) e h es k = begin_token n TEXT t [] (inr e) es k
begin_text n t (Text (Some v)) e h es k = begin_token n TEXT t v (inl e) es k
begin_text n t c e h es k = absurd (cc)

begin_end : (n : ℕ) (t : Lexeme) (c : Token) → t.token ≡ c → end_token c ≡ true → (es : List Place) (k : ℕ → Act es Deployment) → Starting (place n END ∷ es) k t
begin_end n t End e h es k = begin_token n END t t.line (e, refl) es k
begin_end n t c e h es k = absurd (cc)

same_firsts : (f : Symbol → List Token) (n : ℕ) (a : Symbol) → of_rules f (rules 0 a) ≡ of_rules f (rules n a)
same_firsts f n (word w) = refl
same_firsts f n a = refl

regroup_or : (a b c d : Bool) → (a || b) ≡ true → (b ≡ true → (c || d) ≡ true) → ((a || c) || d) ≡ true
regroup_or true b c d h f = refl
regroup_or false b c d h f = f h

either_of : (hs ks : List Token) (t : Token) → one_of (hs ++ ks) t ≡ true → (one_of hs t || one_of ks t) ≡ true
either_of [] ks t h = h
either_of (k ∷ hs) ks t h = regroup_or (like k t) (one_of (hs ++ ks) t) (one_of hs t) (one_of ks t) h (λ g. either_of hs ks t g)

begins_rule : (f : Symbol → List Token) (n : ℕ) (a : Symbol) (t : Lexeme) → ((m : ℕ) (b : Symbol) → one_of (f b) t.token ≡ true → (es : List Place) (k : Of b → Act es Deployment) → Starting (place m b ∷ es) k t)
    → (rs : List (Rule (Of a))) → ((r : Rule (Of a)) → OneOf r rs → OneOf r (rules n a)) → one_of (of_rules f rs) t.token ≡ true → (es : List Place) (k : Of a → Act es Deployment) → Starting (place n a ∷ es) k t
begins_rule f n a t g [] o h es k = absurd (cc)
begins_rule f n a t g (by [] x ∷ rs) o h es k = begins_rule f n a t g rs (λ r i. o r (inr i)) h es k
begins_rule f n a t g (by (place m b ∷ bs) x ∷ rs) o h es k = elim (or_cases (one_of (f b) t.token) (one_of (of_rules f rs) t.token) (either_of (f b) (of_rules f rs) t.token h)) [
  | inl i ↦
      let r : Rule (Of a) = by (place m b ∷ bs) x in
      let d = g m b i (bs ++ es) (means Deployment r es k) in
      record { mark = d.mark; more = d.more; code = d.code; yields = phrase n a r es k (marked d.mark t ∷ d.more) d.code (o r (inl refl)) d.yields }
  | inr i ↦ begins_rule f n a t g rs (λ r j. o r (inr j)) i es k
]

begins_in : (m n : ℕ) (a : Symbol) (t : Lexeme) → one_of (firsts_in m a) t.token ≡ true → (es : List Place) (k : Of a → Act es Deployment) → Starting (place n a ∷ es) k t
begins_in zero n a t h es k = absurd (cc)
begins_in (suc m) n (word w) t h es k = begin_token n (word w) t t.line (is_that w t.token (only_or (is_sign w t.token) h), refl) es k
begins_in (suc m) n NAME t h es k = begin_name n t t.token refl (only_or (name_token t.token) h) es k
begins_in (suc m) n (INT least most) t h es k = begin_int n least most t t.token refl (only_or (number_token t.token) h) es k
begins_in (suc m) n TEXT t h es k = begin_text n t t.token refl (only_or (text_token t.token) h) es k
begins_in (suc m) n END t h es k = begin_end n t t.token refl (only_or (end_token t.token) h) es k
begins_in (suc m) n a t h es k = begins_rule (firsts_in m) n a t (λ p b i. begins_in m p b t i) (rules n a) (λ r i. i) (subst (λ ks. one_of ks t.token ≡ true) (same_firsts (firsts_in m) n a) h) es k

pub begins_with : (n : ℕ) (a : Symbol) (t : Lexeme) → one_of (firsts a) t.token ≡ true → (es : List Place) (k : Of a → Act es Deployment) → Starting (place n a ∷ es) k t
begins_with n a t h es k = begins_in 11 n a t h es k

-- ---- the first token of a level too many

abbrev deeper : ℕ → Symbol → ℕ
deeper n expr = n + 1
deeper n block = n + 1
deeper n a = n

abbrev first_depth : {A : Type 0} → ℕ → Rule A → ℕ
first_depth n (by [] f) = n
first_depth n (by (place m b ∷ bs) f) = m

rule_depths : (n : ℕ) (a : Symbol) → map (first_depth (deeper n a)) (rules n a) ≡ map (λ r. deeper n a) (rules n a)
rule_depths n (word w) = refl
rule_depths n a = refl

tail_same : (m n : ℕ) (ms ns : List ℕ) → m ∷ ms ≡ n ∷ ns → (m ≡ n) × (ms ≡ ns)
tail_same m n ms ns e = ((cc), (cc))

depth_of : {A : Type 0} (f : Rule A → ℕ) (n : ℕ) (r : Rule A) (rs : List (Rule A)) → map f rs ≡ map (λ s. n) rs → OneOf r rs → f r ≡ n
depth_of f n r [] e o = absurd o
depth_of f n r (s ∷ rs) e (inl o) = ap f o ∙ (tail_same (f s) n (map f rs) (map (λ q. n) rs) e).0
depth_of f n r (s ∷ rs) e (inr o) = depth_of f n r rs (tail_same (f s) n (map f rs) (map (λ q. n) rs) e).1 o

still_deep : (n : ℕ) (a : Symbol) → 64 < n → 64 < deeper n a
still_deep n expr h = omega (arith, h)
still_deep n block h = omega (arith, h)
still_deep n a h = h

wide_outside : (least most : ℕ) (t : Token) (m : Option ℕ) → is_wide (INT least most) ≡ true → t ≡ Number m → is_outside (INT least most) t ≡ past_token t
wide_outside least most t None h e = ap (is_outside (INT least most)) e ∙ sym (ap past_token e)
wide_outside least most t (Some m) h e =
    let a : least ≡ 0 = eqb-true least 0 (left_is (least == 0) (most == 2 ^ 63 - 1) h) in
    let b : most ≡ 2 ^ 63 - 1 = eqb-true most (2 ^ 63 - 1) (right_is (least == 0) (most == 2 ^ 63 - 1) h) in
    ap (is_outside (INT least most)) e ∙ ap (λ i. not (nat_le i m && nat_le m most)) a ∙ ap (λ i. not (nat_le 0 m && nat_le m i)) b ∙ ap (λ c. not (c && nat_le m (2 ^ 63 - 1))) (leb-zero m) ∙ sym (ap past_token e)

outside_is_past : (a : Symbol) (t : Lexeme) (x : Of a) → is_wide a ≡ true → IsToken a t x → is_outside a t.token ≡ past_token t.token
outside_is_past (word w) t x h i = sym (ap past_token i.0)
outside_is_past NAME t x h i = sym (ap past_token i)
outside_is_past (INT least most) t x h (inl i) = wide_outside least most t.token (Some x) h i
outside_is_past (INT least most) t x h (inr i) = wide_outside least most t.token None h i
outside_is_past TEXT t x h (inl i) = sym (ap past_token i)
outside_is_past TEXT t x h (inr i) = sym (ap past_token i)
outside_is_past END t x h i = sym (ap past_token i.0)
outside_is_past a t x h i = absurd i

not_low : (n : ℕ) → 64 < n → nat_le n 64 ≡ false
not_low n h = lt-leb n 64 h

deep_limit : (n : ℕ) (a : Symbol) (t : Lexeme) (x : Of a) → 64 < n → is_wide a ≡ true → IsToken a t x → limit n a t.token ≡ (if past_token t.token then Some OfNumber else Some TooDeep)
deep_limit n a t x h w i =
    ap (λ b. if b then Some OfNumber else if not (nat_le n 64) then Some TooDeep else if is_long t.token then Some TooLarge else None) (outside_is_past a t x w i)
    ∙ ap (λ b. if past_token t.token then Some OfNumber else if not b then Some TooDeep else if is_long t.token then Some TooLarge else None) (not_low n h)

pub deep_first : (n : ℕ) (a : Symbol) (es : List Place) (k : Of a → Act es Deployment) (u : Marked) (v : List Marked) (y : Deployment) → 64 < n → nullable a ≡ false → is_wide a ≡ true → Gives (place n a ∷ es) k (u ∷ v) y → u.breaks ≡ (if past_token u.lexeme.token then Some OfNumber else Some TooDeep)
deep_first n a es k u v y h z w (token _ _ _ _ _ x _ _ i m d) = m ∙ deep_limit n a u.lexeme x h w i
deep_first n a es k u v y h z w (phrase _ _ (by [] f) _ _ _ _ o d) = never_both (nullable a) (left_is (nullable a) _ (fit n a (by [] f) o)) z
deep_first n a es k u v y h z w (phrase _ _ (by (place m b ∷ bs) f) _ _ _ _ o d) =
    let r : Rule (Of a) = by (place m b ∷ bs) f in
    let g = right_is (among (firsts b) (firsts a)) _ (fit n a r o) in
    deep_first m b (bs ++ es) (means Deployment r es k) u v y (subst (λ i. 64 < i) (sym (depth_of (first_depth (deeper n a)) (deeper n a) r (rules n a) (rule_depths n a) o)) (still_deep n a h))
    (is_not (nullable b) (left_is (not (nullable b)) _ g)) (right_is _ (is_wide b) (right_is (not (nullable b)) _ g)) d
