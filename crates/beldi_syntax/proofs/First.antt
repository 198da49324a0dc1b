-- A text is refused at the first token that has a cause, and read where none has.
use Rattle.std.specs.Prelude.{◌⊎◌, ◌||◌, ◌+◌, ◌≤◌, length}
use Rattle.beldi_syntax.proofs.Names.{Act, Bad, Begins, Bool, Breaks, Cause, Deployment, END, End, Err, INT, IsCode, IsToken, Lexeme, List, Marked, NAME, Name, None, Number, Of, OfNumber, Ok, OneOf, Option, Place, Read, Refused, Rule, Sign, Some, Symbol, Syntax, TEXT, Text, Token, TooDeep, TooLarge, Utf8, What, Wrong, [], ap, append_assoc, arith, bad, begun_by, by, code_of, codes, deployment, ends, false, got, if◌then◌else◌, inl, inr, is_ascii_alphabetic, is_ascii_digit, is_blank, is_reserved, lexemes, lexemes_in, limit, line_after, line_of, marked, means, nat_le, not, nothing, phrase, piece_len, place, put, read_deployment, refl, rules, same, shape, sign_or_word, string_at, subst, suc, sym, take, text_or_bad, text_token_of, token, token_of, true, utf8_of, unbroken, word, word_of, zero, ℕ, ◌++◌, ◌-◌, ◌==◌, ◌↔◌, ◌∙◌, ◌∷◌, ◌≡◌}
use Rattle.beldi_syntax.proofs.Lookahead.{Gives, inner, all_inner, is_empty, ended, fit, begun, token_rules, left_is, right_is, nullable}
use Rattle.beldi_syntax.proofs.Sound.{Stack, stack, Makes, Meets, Run, here, took, went, Halt, Broken, Never, Stuck, Explained, push, one_value, token_mark}
use Rattle.beldi_syntax.proofs.{Fill.fills, Commands.deployments}

-- ---- runs and derivations

-- these tokens are those of a text, whatever limits they break
abbrev Over : List Lexeme → List Marked → Type 0
Over [] [] = Unit {0}
Over [] (u ∷ us) = ⊥
Over (t ∷ ts) [] = ⊥
Over (t ∷ ts) (u ∷ us) = (t ≡ u.lexeme) × Over ts us

-- what a run says of derivations
pub record Passed (f g : Stack) (s r : List Lexeme) : Type 0 where
  pub ts : List Lexeme
  pub all : s ≡ ts ++ r
  pub yields : (v : List Marked) (y : Deployment) → Makes g v y → Makes f (unbroken ts ++ v) y
  pub only : (us v : List Marked) (y : Deployment) → Over ts us → Meets r v → Makes f (us ++ v) y → Makes g v y

met : (ts r : List Lexeme) (us v : List Marked) → Over ts us → Meets r v → Meets (ts ++ r) (us ++ v)
met [] r [] v o m = m
met [] r (u ∷ us) v o m = absurd o
met (t ∷ ts) r [] v o m = absurd o
met (t ∷ ts) r (u ∷ us) v o m = o.0

-- a symbol that is a token is that token alone
after_token : (n : ℕ) (a : Symbol) (es : List Place) (k : Of a → Act es Deployment) (t : Lexeme) (x : Of a) (u : Marked) (us : List Marked) (y : Deployment) → IsToken a t x → limit n a t.token ≡ None → t ≡ u.lexeme → Gives (place n a ∷ es) k (u ∷ us) y → Gives es (k x) us y
after_token n a es k t x u us y i l e (token _ _ _ _ _ z _ _ j m d) = subst (λ w. Gives es (k w) us y) (one_value n a t z x (subst (λ q. IsToken a q z) (sym e) j) i l) d
after_token n a es k t x u us y i l e (phrase _ _ r _ _ _ _ o d) = absurd (subst (OneOf r) (token_rules n a t x i) o)

over_first : (n : ℕ) (a : Symbol) (es : List Place) (k : Of a → Act es Deployment) (t : Lexeme) (x : Of a) (ts : List Lexeme) (us v : List Marked) (y : Deployment) → IsToken a t x → limit n a t.token ≡ None → Over (t ∷ ts) us → Gives (place n a ∷ es) k (us ++ v) y
    → (ws : List Marked) × (Over ts ws) × (Gives es (k x) (ws ++ v) y)
over_first n a es k t x ts [] v y i l o d = absurd o
over_first n a es k t x ts (u ∷ us) v y i l o d = (us, o.1, after_token n a es k t x u (us ++ v) y i l o.0 d)

nil_over : (us v : List Marked) (f : Stack) (y : Deployment) → Over [] us → Makes f (us ++ v) y → Makes f v y
nil_over [] v f y o d = d
nil_over (u ∷ us) v f y o d = absurd o

passed : (f g : Stack) (s r : List Lexeme) → Run f s g r → Passed f g s r
passed _ _ _ _ (here f s) = record { ts = []; all = refl; yields = λ v y d. d; only = λ us v y o m d. nil_over us v f y o d }
passed _ _ _ _ (took n a cs k t x s g r i l e) =
    let h = passed (stack cs (k x)) g s r e in
    record {
      ts = t ∷ h.ts;
      all = ap (λ q. t ∷ q) h.all;
      yields = λ v y d. token n a cs k (marked None t) x (unbroken h.ts ++ v) y i (sym l) (h.yields v y d);
      only = λ us v y o m d. let w = over_first n a cs k t x h.ts us v y i l o d in h.only w.0 v y w.1 m w.2;
    }
passed _ _ _ _ (went f j s g r d e) =
    let h = passed j g s r e in
    record {
      ts = h.ts;
      all = h.all;
      yields = λ v y c. d.back (unbroken h.ts ++ v) y (h.yields v y c);
      only = λ us v y o m c. h.only us v y o m (d.on (us ++ v) y (subst (λ q. Meets q (us ++ v)) (sym h.all) (met h.ts r us v o m)) c);
    }

-- ---- what can only be the last token

abbrev stops : Token → Bool
stops (Sign w) = same w (codes "script")
stops (Name v) = false
stops (Number n) = false
stops (Text v) = false
stops End = true
stops Bad = true

-- just the last token stops
abbrev stops_last : List Marked → Bool
stops_last [] = false
stops_last (u ∷ us) = if stops u.lexeme.token then is_empty us else stops_last us

twice_not : (b : Bool) → b ≡ not (not b)
twice_not true = refl
twice_not false = refl

inner_goes_on : (a : Symbol) (t : Lexeme) (x : Of a) → IsToken a t x → stops t.token ≡ not (inner a)
inner_goes_on (word w) t x i = ap stops i.0 ∙ twice_not (same w (codes "script"))
inner_goes_on NAME t x i = ap stops i
inner_goes_on (INT least most) t x (inl i) = ap stops i
inner_goes_on (INT least most) t x (inr i) = ap stops i
inner_goes_on TEXT t x (inl i) = ap stops i
inner_goes_on TEXT t x (inr i) = ap stops i
inner_goes_on END t x i = ap stops i.0
inner_goes_on a t x i = absurd i

inners_ended : (bs cs : List Place) → all_inner bs ≡ true → ended cs ≡ true → ended (bs ++ cs) ≡ true
inners_ended [] cs h k = k
inners_ended (place n b ∷ bs) cs h k =
    ap (λ x. if x then ended (bs ++ cs) else is_empty (bs ++ cs)) (left_is (inner b) (all_inner bs) h) ∙ inners_ended bs cs (right_is (inner b) (all_inner bs) h) k

append_nil : {A : Type 0} (xs : List A) → xs ++ [] ≡ xs
append_nil [] = refl
append_nil (x ∷ xs) = ap (λ ys. x ∷ ys) (append_nil xs)

still_ended : (b : Bool) (bs cs : List Place) → (if b then all_inner bs else ended bs) ≡ true → (if b then ended cs else is_empty cs) ≡ true → ended (bs ++ cs) ≡ true
still_ended true bs cs h k = inners_ended bs cs h k
still_ended false bs [] h k = subst (λ ds. ended ds ≡ true) (sym (append_nil bs)) h
still_ended false bs (c ∷ cs) h k = absurd (cc)

rule_ended : (n : ℕ) (a : Symbol) (r : Rule (Of a)) (cs : List Place) → OneOf r (rules n a) → (if inner a then ended cs else is_empty cs) ≡ true → ended (shape r ++ cs) ≡ true
rule_ended n a (by [] f) cs o h = sym (ap (λ b. if b then ended cs else is_empty cs) (right_is (nullable a) (inner a) (fit n a (by [] f) o))) ∙ h
rule_ended n a (by (place m b ∷ bs) f) cs o h = still_ended (inner a) (place m b ∷ bs) cs (left_is _ _ (right_is (not (nullable b)) _ (right_is _ _ (fit n a (by (place m b ∷ bs) f) o)))) h

none_after : (k : Deployment) (us : List Marked) (y : Deployment) → Gives [] k us y → is_empty us ≡ true
none_after k [] y d = refl
none_after k (u ∷ us) y d = absurd (let e : false ≡ true = begun [] k (u ∷ us) y d in cc)

token_last : (b : Bool) (u : Marked) (cs : List Place) (k : Act cs Deployment) (us : List Marked) (y : Deployment) → stops u.lexeme.token ≡ not b → (if b then ended cs else is_empty cs) ≡ true → Gives cs k us y → (ended cs ≡ true → stops_last us ≡ true) → stops_last (u ∷ us) ≡ true
token_last true u cs k us y h e d f = ap (λ x. if x then is_empty us else stops_last us) h ∙ f e
token_last false u [] k us y h e d f = ap (λ x. if x then is_empty us else stops_last us) h ∙ none_after k us y d
token_last false u (c ∷ cs) k us y h e d f = absurd (cc)

-- `script` and the end are a deployment's last token
last_only : (cs : List Place) (k : Act cs Deployment) (us : List Marked) (y : Deployment) → Gives cs k us y → ended cs ≡ true → stops_last us ≡ true
last_only _ _ _ _ (nothing y) e = absurd (cc)
last_only _ _ _ _ (token n a cs k u x us y i m d) e = token_last (inner a) u cs (k x) us y (inner_goes_on a u.lexeme x i) e d (last_only cs (k x) us y d)
last_only _ _ _ _ (phrase n a r cs k us y o d) e = last_only (shape r ++ cs) (means Deployment r cs k) us y d (rule_ended n a r cs o e)

none_left : (us v : List Marked) → is_empty (us ++ v) ≡ true → v ≡ []
none_left [] [] h = refl
none_left [] (u ∷ v) h = absurd (cc)
none_left (u ∷ us) v h = absurd (cc)

no_more : (us v : List Marked) → stops_last (us ++ v) ≡ true → stops_last us ≡ true → v ≡ []
no_more [] v h k = absurd (cc)
no_more (u ∷ us) v h k = elim (stops u.lexeme.token) as (λ b. (if b then is_empty (us ++ v) else stops_last (us ++ v)) ≡ true → (if b then is_empty us else stops_last us) ≡ true → v ≡ []) [
  | true ↦ λ i j. none_left us v i
  | false ↦ λ i j. no_more us v i j
] h k

-- ---- the last token of a text

abbrev is_no_end : Token → Bool
is_no_end End = false
is_no_end t = true

either : (b : Bool) (x y : Token) → is_no_end x ≡ true → is_no_end y ≡ true → is_no_end (if b then x else y) ≡ true
either true x y h k = h
either false x y h k = k

text_no_end : (w : List ℕ) (o : Option (List ℕ)) → is_no_end (text_or_bad w o) ≡ true
text_no_end w None = refl
text_no_end w (Some s) = refl

word_no_end : (b : ℕ) (o : Option (List ℕ)) → is_no_end (sign_or_word b o) ≡ true
word_no_end b None = refl
word_no_end b (Some w) = either (is_ascii_alphabetic b) (word_of w) (Sign w) (either (nat_le (length w) 32) (if is_reserved w then Sign w else Name w) Bad (either (is_reserved w) (Sign w) (Name w) refl refl) refl) refl

begun_no_end : (b : ℕ) (w : List ℕ) → is_no_end (begun_by b w) ≡ true
begun_no_end b w = either (b == 34) (text_token_of w) _ (text_no_end w (string_at w)) (either (is_ascii_digit b) _ (sign_or_word b (utf8_of w)) refl (word_no_end b (utf8_of w)))

stops_as_ends : (t : Token) → is_no_end t ≡ true → stops t ≡ ends (Some t)
stops_as_ends (Sign w) h = refl
stops_as_ends End h = absurd (cc)
stops_as_ends Bad h = refl
stops_as_ends t h = refl

token_stops : (t : Token) (line : ℕ) (more : List Lexeme) (b : Bool) → stops t ≡ b → stops_last (unbroken more) ≡ true → stops_last (unbroken (record { token = t; line = line } ∷ (if b then [] else more))) ≡ true
token_stops t line more true e h = ap (λ x. if x then true else false) e
token_stops t line more false e h = ap (λ x. if x then is_empty (unbroken more) else stops_last (unbroken more)) e ∙ h

piece_stops : (t : Token) (line : ℕ) (more : List Lexeme) → is_no_end t ≡ true → stops_last (unbroken more) ≡ true → stops_last (unbroken (put (Some t) line ++ (if ends (Some t) then [] else more))) ≡ true
piece_stops t line more n h = token_stops t line more (ends (Some t)) (stops_as_ends t n) h

begun_stops : (blank : Bool) (b : ℕ) (w : List ℕ) (line : ℕ) (more : List Lexeme) → stops_last (unbroken more) ≡ true
    → stops_last (unbroken (put (if blank then None else Some (begun_by b w)) line ++ (if ends (if blank then None else Some (begun_by b w)) then [] else more))) ≡ true
begun_stops true b w line more h = h
begun_stops false b w line more h = piece_stops (begun_by b w) line more (begun_no_end b w) h

first_stops : (w : List ℕ) (line : ℕ) (more : List Lexeme) → stops_last (unbroken more) ≡ true → stops_last (unbroken (put (token_of w) line ++ (if ends (token_of w) then [] else more))) ≡ true
first_stops [] line more h = refl
first_stops (b ∷ bs) line more h = begun_stops (is_blank b || b == 35) b (b ∷ bs) line more h

text_stops : (skip line : ℕ) (bs : List ℕ) → stops_last (unbroken (lexemes skip line bs)) ≡ true
text_stops skip line [] = refl
text_stops (suc k) line (b ∷ bs) = text_stops k line bs
text_stops zero line (b ∷ bs) = first_stops (take (piece_len (b ∷ bs)) (b ∷ bs)) line _ (text_stops (piece_len (b ∷ bs) - 1) (line_after (b ∷ bs) line) bs)

-- ---- what is read

abbrev start : Stack
start = push 0 deployment [] (λ c. c)

over_within : (ts : List Lexeme) → Over ts (unbroken ts)
over_within [] = tt
over_within (t ∷ ts) = (refl, over_within ts)

meets_within : (r : List Lexeme) → Meets r (unbroken r)
meets_within [] = tt
meets_within (t ∷ r) = refl

within_both : (ts us : List Lexeme) → unbroken (ts ++ us) ≡ unbroken ts ++ unbroken us
within_both [] us = refl
within_both (t ∷ ts) us = ap (λ v. marked None t ∷ v) (within_both ts us)

within_as : (s ts r : List Lexeme) → s ≡ ts ++ r → unbroken s ≡ unbroken ts ++ unbroken r
within_as s ts r e = ap unbroken e ∙ within_both ts r

done : (c : Deployment) (us : List Marked) (y : Deployment) → Gives [] c us y → c ≡ y
done _ _ _ (nothing y) = refl

empty_within : (r : List Lexeme) → unbroken r ≡ [] → r ≡ []
empty_within [] e = refl
empty_within (t ∷ r) e = absurd (cc)

-- a run to the end of a deployment is over all of a text
none_left_of : (s left : List Lexeme) (code : Deployment) → stops_last (unbroken s) ≡ true → Run start s (stack [] code) left → left ≡ []
none_left_of s left code h d =
    let p = passed start (stack [] code) s left d in
    let y : IsCode (unbroken p.ts) code = subst (λ v. IsCode v code) (append_nil (unbroken p.ts)) (p.yields [] code (nothing code)) in
    empty_within left (no_more (unbroken p.ts) (unbroken left) (subst (λ v. stops_last v ≡ true) (within_as s p.ts left p.all) h) (last_only (place 0 deployment ∷ []) (λ c. c) (unbroken p.ts) code y refl))

whole_text : (s left : List Lexeme) (code : Deployment) → stops_last (unbroken s) ≡ true → Run start s (stack [] code) left → IsCode (unbroken s) code
whole_text s left code h d =
    let p = passed start (stack [] code) s left d in
    let y : IsCode (unbroken p.ts) code = subst (λ v. IsCode v code) (append_nil (unbroken p.ts)) (p.yields [] code (nothing code)) in
    subst (λ v. IsCode (unbroken v) code) (sym (p.all ∙ ap (λ r. p.ts ++ r) (none_left_of s left code h d) ∙ append_nil p.ts)) y

-- what is stuck goes on with no token that breaks no limit
stuck_goes : (g : Stack) (s : List Lexeme) (what : What) → Stuck g s what → (what ≡ Syntax × Never g s) ⊎ Broken g s what
stuck_goes g s Utf8 h = absurd h
stuck_goes g s Syntax h = inl (refl, h)
stuck_goes g s OfNumber h = inr h
stuck_goes g s TooDeep h = inr h
stuck_goes g s TooLarge h = inr h

other_first : {A : Type 0} (g : Stack) (t : Lexeme) (r : List Lexeme) (what : What) (v : List Marked) (y : Deployment) → Broken g (t ∷ r) what → Makes g (marked None t ∷ v) y → A
other_first g t r what v y b d =
    let f : b.first ≡ t = subst (λ q. Meets q (marked None t ∷ v)) b.all refl in
    absurd (let n : None ≡ Some what = b.sure None v y (subst (λ q. Makes g (marked None q ∷ v) y) (sym f) d) in cc)

-- what is stuck does not go on with a token that breaks no limit
stuck_off : (g : Stack) (t : Lexeme) (r : List Lexeme) (what : What) (v : List Marked) (y : Deployment) → Stuck g (t ∷ r) what → Makes g (marked None t ∷ v) y → ⊥
stuck_off g t r what v y h d = elim (stuck_goes g (t ∷ r) what h) [
  | inl n ↦ n.1.never (marked None t ∷ v) y refl d
  | inr b ↦ other_first g t r what v y b d
]

stuck_end : (g : Stack) (what : What) (y : Deployment) → Stuck g [] what → Makes g [] y → ⊥
stuck_end g what y h d = elim (stuck_goes g [] what h) [
  | inl n ↦ n.1.never [] y tt d
  | inr b ↦ absurd (let e = b.all in cc)
]

stuck_within : (g : Stack) (s : List Lexeme) (what : What) (y : Deployment) → Stuck g s what → Makes g (unbroken s) y → ⊥
stuck_within g [] what y h d = stuck_end g what y h d
stuck_within g (t ∷ r) what y h d = stuck_off g t r what (unbroken r) y h d

-- where the tokens are a deployment, nothing is refused
not_refused : (s : List Lexeme) (line : ℕ) (what : What) (code : Deployment) → Halt start s line what → IsCode (unbroken s) code → ⊥
not_refused s line what code h d =
    let p = passed start h.stop s h.left h.run in
    stuck_within h.stop h.left what code h.stuck (p.only (unbroken p.ts) (unbroken h.left) code (over_within p.ts) (meets_within h.left) (subst (λ v. IsCode v code) (within_as s p.ts h.left p.all) d))

reads : (s : List Lexeme) (r : Read Deployment) (code : Deployment) → stops_last (unbroken s) ≡ true → Explained r start (λ c. stack [] c) s → (code_of r ≡ Ok code) ↔ IsCode (unbroken s) code
reads s (got c left) code h d = (
  λ e. whole_text s left code h (subst (λ q. Run start s (stack [] q) left) (let f : c ≡ code = cc in f) d),
  λ y. let p = passed start (stack [] c) s left d in
      ap Ok (done c (unbroken left) code (p.only (unbroken p.ts) (unbroken left) code (over_within p.ts) (meets_within left) (subst (λ v. IsCode v code) (within_as s p.ts left p.all) y))),
)
reads s (bad line what) code h d = (λ e. absurd (cc), λ y. absurd (not_refused s line what code d y))

pub reads_tokens : (bytes : List ℕ) (code : Deployment) → (code_of (read_deployment (lexemes 0 1 bytes)) ≡ Ok code) ↔ IsCode (unbroken (lexemes 0 1 bytes)) code
reads_tokens bytes code = reads (lexemes 0 1 bytes) (read_deployment (lexemes 0 1 bytes)) code (text_stops 0 1 bytes) (deployments.told (lexemes 0 1 bytes))

-- ---- what is refused

-- tokens, the last of them apart
record Split (front : List Marked) (ts : List Lexeme) (t : Lexeme) : Type 0 where
  pub us : List Marked
  pub u : Marked
  pub all : front ≡ us ++ u ∷ []
  pub over : Over ts us
  pub last : t ≡ u.lexeme

head_same : (a b : Lexeme) (x y : List Lexeme) → a ∷ x ≡ b ∷ y → (a ≡ b) × (x ≡ y)
head_same a b x y e = ((cc), (cc))

split : (front : List Marked) (ts : List Lexeme) (t : Lexeme) → lexemes_in front ≡ ts ++ t ∷ [] → Split front ts t
split [] [] t e = absurd (cc)
split [] (x ∷ ts) t e = absurd (cc)
split (u ∷ []) [] t e = record { us = []; u = u; all = refl; over = tt; last = sym (head_same u.lexeme t [] [] e).0 }
split (u ∷ w ∷ front) [] t e = absurd (let f = (head_same u.lexeme t (w.lexeme ∷ lexemes_in front) [] e).1 in cc)
split (u ∷ front) (x ∷ ts) t e =
    let h = head_same u.lexeme x (lexemes_in front) (ts ++ t ∷ []) e in
    let s = split front ts t h.1 in
    record { us = u ∷ s.us; u = s.u; all = ap (λ v. u ∷ v) s.all; over = (sym h.0, s.over); last = s.last }

-- no deployment begins with what a run is over and a token that it does not go on with
none_begins : (g : Stack) (s : List Lexeme) (t : Lexeme) (r : List Lexeme) (p : Passed start g s (t ∷ r)) → Never g (t ∷ r) → Begins (p.ts ++ t ∷ []) → ⊥
none_begins g s t r p n b =
    let h = split b.front p.ts t b.same in
    n.never (h.u ∷ b.more) b.code h.last (p.only h.us (h.u ∷ b.more) b.code h.over h.last (subst (λ v. IsCode v b.code) (ap (λ v. v ++ b.more) h.all ∙ append_assoc h.us (h.u ∷ []) b.more) b.is))

wrong_syntax : (g : Stack) (s : List Lexeme) (t : Lexeme) (r : List Lexeme) → Passed start g s (t ∷ r) → Never g (t ∷ r) → Wrong s t.line Syntax
wrong_syntax g s t r p n =
    let f = fills g.cs g.k in
    record { before = p.ts; first = t; after = r; more = f.us; code = f.code; all = p.all; here = refl; begins = p.yields f.us f.code f.yields; cause = none_begins g s t r p n }

wrong_limit : (g : Stack) (s : List Lexeme) (t : Lexeme) (r : List Lexeme) (what : What) (p : Passed start g s (t ∷ r)) → Broken g (t ∷ r) what → (Breaks p.ts t what → Cause p.ts t what) → Wrong s t.line what
wrong_limit g s t r what p b c =
    let f : b.first ≡ t = sym (head_same t b.first r b.rest b.all).0 in
    let y = p.yields (marked (Some what) t ∷ b.more) b.code (subst (λ q. Makes g (marked (Some what) q ∷ b.more) b.code) f b.goes) in
    record { before = p.ts; first = t; after = r; more = marked (Some what) t ∷ b.more; code = b.code; all = p.all; here = refl; begins = y; cause = c (record { more = b.more; code = b.code; is = y }) }

wrong_at : (g : Stack) (s left : List Lexeme) (what : What) → stops_last (unbroken s) ≡ true → Passed start g s left → Stuck g left what → Wrong s (line_of left) what
wrong_at g s [] what h p d =
    let f = fills g.cs g.k in
    let y = p.yields f.us f.code f.yields in
    let n : f.us ≡ [] = no_more (unbroken p.ts) f.us (last_only (place 0 deployment ∷ []) (λ c. c) (unbroken p.ts ++ f.us) f.code y refl) (subst (λ v. stops_last v ≡ true) (ap unbroken (p.all ∙ append_nil p.ts)) h) in
    absurd (stuck_end g what f.code d (subst (λ v. Makes g v f.code) n f.yields))
wrong_at g s (t ∷ r) Utf8 h p d = absurd d
wrong_at g s (t ∷ r) Syntax h p d = wrong_syntax g s t r p d
wrong_at g s (t ∷ r) OfNumber h p d = wrong_limit g s t r OfNumber p d (λ b. b)
wrong_at g s (t ∷ r) TooDeep h p d = wrong_limit g s t r TooDeep p d (λ b. b)
wrong_at g s (t ∷ r) TooLarge h p d = wrong_limit g s t r TooLarge p d (λ b. b)

halt_wrong : (s : List Lexeme) (line : ℕ) (what : What) → stops_last (unbroken s) ≡ true → Halt start s line what → Wrong s line what
halt_wrong s line what h d = subst (λ l. Wrong s l what) (sym d.line_is) (wrong_at d.stop s d.left what h (passed start d.stop s d.left d.run) d.stuck)

-- ---- nothing else is wrong

same_lexemes : (ts : List Lexeme) → lexemes_in (unbroken ts) ≡ ts
same_lexemes [] = refl
same_lexemes (t ∷ ts) = ap (λ v. t ∷ v) (same_lexemes ts)

length_both : (ts r : List Lexeme) → length (ts ++ r) ≡ length ts + length r
length_both [] r = omega arith
length_both (t ∷ ts) r = let e = length_both ts r in omega (arith, e)

-- a token that a run is over breaks no limit
fine_over : (f g : Stack) (s r : List Lexeme) → Run f s g r → (before : List Lexeme) (first : Lexeme) (after : List Lexeme) (us : List Marked) (m : Option What) (v : List Marked) (y : Deployment)
    → s ≡ before ++ first ∷ after → length r ≤ length after → Over before us → Makes f (us ++ marked m first ∷ v) y → m ≡ None
fine_over _ _ _ _ (here f s) before first after us m v y e l o d = absurd (let h = ap length e in let j = length_both before (first ∷ after) in omega (arith, h, j, l))
fine_over _ _ _ _ (took n a cs k t x s g r i b c) [] first after [] m v y e l o d =
    let h = head_same t first s after e in
    token_mark n a cs k (marked m first) v y (token_rules n a t x i) d ∙ ap (λ q. limit n a q.token) (sym h.0) ∙ b
fine_over _ _ _ _ (took n a cs k t x s g r i b c) [] first after (u ∷ us) m v y e l o d = absurd o
fine_over _ _ _ _ (took n a cs k t x s g r i b c) (w ∷ before) first after [] m v y e l o d = absurd o
fine_over _ _ _ _ (took n a cs k t x s g r i b c) (w ∷ before) first after (u ∷ us) m v y e l o d =
    let h = head_same t w s (before ++ first ∷ after) e in
    fine_over (stack cs (k x)) g s r c before first after us m v y h.1 l o.1 (after_token n a cs k t x u (us ++ marked m first ∷ v) y i b (h.0 ∙ o.0) d)
fine_over _ _ _ _ (went f j s g r b c) before first after us m v y e l o d =
    fine_over j g s r c before first after us m v y e l o (b.on (us ++ marked m first ∷ v) y (subst (λ q. Meets q (us ++ marked m first ∷ v)) (sym e) (met before (first ∷ after) us (marked m first ∷ v) o refl)) d)

-- a cause is that no deployment begins so, or a limit
cause_is : (before : List Lexeme) (first : Lexeme) (what : What) → Cause before first what → (what ≡ Syntax × (Begins (before ++ first ∷ []) → ⊥)) ⊎ Breaks before first what
cause_is before first Utf8 c = absurd c
cause_is before first Syntax c = inl (refl, c)
cause_is before first OfNumber c = inr c
cause_is before first TooDeep c = inr c
cause_is before first TooLarge c = inr c

begins_so : (before : List Lexeme) (first : Lexeme) (m : List Lexeme) (us : List Marked) (code : Deployment) → IsCode (unbroken (before ++ first ∷ m) ++ us) code → Begins (before ++ first ∷ [])
begins_so before first m us code d = record {
  front = unbroken (before ++ first ∷ []);
  more = unbroken m ++ us;
  code = code;
  same = same_lexemes (before ++ first ∷ []);
  is = subst (λ v. IsCode v code)
      (ap (λ v. v ++ us) (within_both before (first ∷ m)) ∙ append_assoc (unbroken before) (unbroken (first ∷ m)) us
      ∙ sym (ap (λ v. v ++ (unbroken m ++ us)) (within_both before (first ∷ [])) ∙ append_assoc (unbroken before) (unbroken (first ∷ [])) (unbroken m ++ us))) d;
}

-- a token that a run is over has no cause
no_cause : (g : Stack) (s r before : List Lexeme) (first : Lexeme) (after m : List Lexeme) (us : List Marked) (code : Deployment) (what : What) → Run start s g r → s ≡ before ++ first ∷ after → length r ≤ length after → IsCode (unbroken (before ++ first ∷ m) ++ us) code → Cause before first what → ⊥
no_cause g s r before first after m us code what d e l y c = elim (cause_is before first what c) [
  | inl n ↦ n.1 (begins_so before first m us code y)
  | inr b ↦ let f : Some what ≡ None = fine_over start g s r d before first after (unbroken before) (Some what) b.more b.code e l (over_within before) b.is in cc
]

-- where a text is cut twice, one cut comes first
record Earlier (ts before : List Lexeme) (first : Lexeme) (after left : List Lexeme) : Type 0 where
  pub m : List Lexeme
  pub front : ts ≡ before ++ first ∷ m
  pub back : after ≡ m ++ left

record Later (ts before left : List Lexeme) : Type 0 where
  pub t : Lexeme
  pub m : List Lexeme
  pub rest : List Lexeme
  pub front : before ≡ ts ++ t ∷ m
  pub back : left ≡ t ∷ rest

cut : (ts left before : List Lexeme) (first : Lexeme) (after : List Lexeme) → ts ++ left ≡ before ++ first ∷ after → Earlier ts before first after left ⊎ ((ts ≡ before × left ≡ first ∷ after) ⊎ Later ts before left)
cut [] left [] first after e = inr (inl (refl, e))
cut [] left (b ∷ before) first after e = inr (inr (record { t = b; m = before; rest = before ++ first ∷ after; front = refl; back = e }))
cut (t ∷ ts) left [] first after e = let h = head_same t first (ts ++ left) after e in inl (record { m = ts; front = ap (λ q. q ∷ ts) h.0; back = sym h.1 })
cut (t ∷ ts) left (b ∷ before) first after e =
    let h = head_same t b (ts ++ left) (before ++ first ∷ after) e in
    elim (cut ts left before first after h.1) [
      | inl c ↦ inl (record { m = c.m; front = ap (λ v. t ∷ v) c.front ∙ ap (λ q. q ∷ before ++ first ∷ c.m) h.0; back = c.back })
      | inr (inl c) ↦ inr (inl (ap (λ v. t ∷ v) c.0 ∙ ap (λ q. q ∷ before) h.0, c.1))
      | inr (inr c) ↦ inr (inr (record { t = c.t; m = c.m; rest = c.rest; front = ap (λ v. b ∷ v) c.front ∙ ap (λ q. q ∷ ts ++ c.t ∷ c.m) (sym h.0); back = c.back }))
    ]

-- the same refusal
abbrev Same : ℕ → What → ℕ → What → Type 0
Same line what line' what' = (line ≡ line') × (what ≡ what')

-- at one token there is one cause
one_cause : (g : Stack) (s left before : List Lexeme) (first : Lexeme) (after : List Lexeme) (what what' : What) (p : Passed start g s left) → p.ts ≡ before → left ≡ first ∷ after → Stuck g left what → Cause before first what' → what ≡ what'
one_cause g s left before first after what what' p e f d c = elim (stuck_goes g left what d) [
  | inl n ↦ elim (cause_is before first what' c) [
    | inl k ↦ n.0 ∙ sym k.0
    | inr b ↦ absurd (n.1.never (marked (Some what') first ∷ b.more) b.code (subst (λ q. Meets q (marked (Some what') first ∷ b.more)) (sym f) refl) (goes b))
  ]
  | inr k ↦
      let j : k.first ≡ first = (head_same k.first first k.rest after (sym k.all ∙ f)).0 in
      elim (cause_is before first what' c) [
        | inl n ↦ absurd (n.1 (begins k j))
        | inr b ↦ some_what what what' (sym (k.sure (Some what') b.more b.code (subst (λ q. Makes g (marked (Some what') q ∷ b.more) b.code) (sym j) (goes b))))
      ]
]
  where
    some_what : (a b : What) → Some a ≡ Some b → a ≡ b
    some_what a b h = cc

    goes : (b : Breaks before first what') → Makes g (marked (Some what') first ∷ b.more) b.code
    goes b = p.only (unbroken p.ts) (marked (Some what') first ∷ b.more) b.code (over_within p.ts) (subst (λ q. Meets q (marked (Some what') first ∷ b.more)) (sym f) refl) (subst (λ q. IsCode (unbroken q ++ marked (Some what') first ∷ b.more) b.code) (sym e) b.is)

    begins : (k : Broken g left what) → k.first ≡ first → Begins (before ++ first ∷ [])
    begins k j = record {
      front = unbroken p.ts ++ marked (Some what) k.first ∷ [];
      more = k.more;
      code = k.code;
      same = names p.ts ∙ ap (λ q. q ++ k.first ∷ []) e ∙ ap (λ q. before ++ q ∷ []) j;
      is = subst (λ v. IsCode v k.code) (sym (append_assoc (unbroken p.ts) (marked (Some what) k.first ∷ []) k.more)) (p.yields (marked (Some what) k.first ∷ k.more) k.code k.goes);
    }
      where
        names : (ts : List Lexeme) → lexemes_in (unbroken ts ++ marked (Some what) k.first ∷ []) ≡ ts ++ k.first ∷ []
        names [] = refl
        names (t ∷ ts) = ap (λ v. t ∷ v) (names ts)

-- what is wrong is what is refused
same_refusal : (s : List Lexeme) (line : ℕ) (what : What) (line' : ℕ) (what' : What) → Halt start s line what → Wrong s line' what' → Same line what line' what'
same_refusal s line what line' what' h w =
    let p = passed start h.stop s h.left h.run in
    elim (cut p.ts h.left w.before w.first w.after (sym p.all ∙ w.all)) [
      | inl c ↦ absurd (earlier p c)
      | inr (inl c) ↦ (h.line_is ∙ ap line_of c.1 ∙ sym w.here, one_cause h.stop s h.left w.before w.first w.after what what' p c.0 c.1 h.stuck w.cause)
      | inr (inr c) ↦ absurd (later p c)
    ]
  where
    earlier : (p : Passed start h.stop s h.left) → Earlier p.ts w.before w.first w.after h.left → ⊥
    earlier p c =
        let f = fills h.stop.cs h.stop.k in
        no_cause h.stop s h.left w.before w.first w.after c.m f.us f.code what' h.run w.all (let i = ap length c.back in let j = length_both c.m h.left in omega (arith, i, j))
        (subst (λ q. IsCode (unbroken q ++ f.us) f.code) c.front (p.yields f.us f.code f.yields)) w.cause

    later : (p : Passed start h.stop s h.left) → Later p.ts w.before h.left → ⊥
    later p c =
        let v : List Marked = unbroken c.m ++ w.more in
        let y : IsCode (unbroken p.ts ++ marked None c.t ∷ v) w.code = subst (λ u. IsCode u w.code) (ap (λ q. unbroken q ++ w.more) c.front ∙ ap (λ u. u ++ w.more) (within_both p.ts (c.t ∷ c.m)) ∙ append_assoc (unbroken p.ts) (unbroken (c.t ∷ c.m)) w.more) w.begins in
        let d = p.only (unbroken p.ts) (marked None c.t ∷ v) w.code (over_within p.ts) (subst (λ q. Meets q (marked None c.t ∷ v)) (sym c.back) refl) y in
        stuck_off h.stop c.t c.rest what v w.code (subst (λ q. Stuck h.stop q what) c.back h.stuck) d

-- what is read has nothing wrong
nothing_wrong : (s : List Lexeme) (left : List Lexeme) (code : Deployment) (line : ℕ) (what : What) → stops_last (unbroken s) ≡ true → Run start s (stack [] code) left → Wrong s line what → ⊥
nothing_wrong s left code line what h d w =
    let y = whole_text s left code h d in
    no_cause (stack [] code) s left w.before w.first w.after w.after [] code what d w.all (let n = ap length (none_left_of s left code h d) in omega (arith, n)) (subst (λ v. IsCode v code) (ap unbroken w.all ∙ sym (append_nil (unbroken (w.before ++ w.first ∷ w.after)))) y) w.cause

refuses : (s : List Lexeme) (r : Read Deployment) (line : ℕ) (what : What) → stops_last (unbroken s) ≡ true → Explained r start (λ c. stack [] c) s → (code_of r ≡ Err (Refused line what)) ↔ Wrong s line what
refuses s (got c left) line what h d = (λ e. absurd (cc), λ w. absurd (nothing_wrong s left c line what h d w))
refuses s (bad l w) line what h d = (
  λ e. let f : (l ≡ line) × (w ≡ what) = ((cc), (cc)) in subst (λ i. Wrong s i what) f.0 (subst (λ j. Wrong s l j) f.1 (halt_wrong s l w h d)),
  λ g. let f = same_refusal s l w line what d g in ap (λ i. Err (Refused i w)) f.0 ∙ ap (λ j. Err (Refused line j)) f.1,
)

pub refuses_tokens : (bytes : List ℕ) (line : ℕ) (what : What) → (code_of (read_deployment (lexemes 0 1 bytes)) ≡ Err (Refused line what)) ↔ Wrong (lexemes 0 1 bytes) line what
refuses_tokens bytes line what = refuses (lexemes 0 1 bytes) (read_deployment (lexemes 0 1 bytes)) line what (text_stops 0 1 bytes) (deployments.told (lexemes 0 1 bytes))
