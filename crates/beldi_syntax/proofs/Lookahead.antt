-- One token decides by which rule a phrase goes.
use Rattle.beldi_syntax.proofs.Names.{Act, Bad, Bool, Deployment, END, End, INT, IsToken, Lexeme, List, Marked, NAME, Name, None, Number, Of, OneOf, Place, Rule, Sign, Symbol, TEXT, Text, Token, Yields, [], ap, by, codes, deployment, end_token, eq-eqb, eqb-true, false, if◌then◌else◌, inl, inr, is_sign, list_all, list_any, means, name_token, not, nothing, number_token, phrase, place, refl, rules, same, shape, subst, suc, sym, text_token, the_end, token, true, word, zero, ℕ, ◌&&◌, ◌++◌, ◌-◌, ◌==◌, ◌^◌, ◌||◌, ◌∙◌, ◌∷◌, ◌≡◌, ◌⊎◌}

-- ---- tests

pub left_is : (a b : Bool) → (a && b) ≡ true → a ≡ true
left_is true b h = refl
left_is false b h = absurd (cc)

pub right_is : (a b : Bool) → (a && b) ≡ true → b ≡ true
right_is true b h = h
right_is false b h = absurd (cc)

and_is : (a b : Bool) → a ≡ true → b ≡ true → (a && b) ≡ true
and_is true b h k = k
and_is false b h k = absurd (cc)

pub is_not : (a : Bool) → not a ≡ true → a ≡ false
is_not true h = absurd (cc)
is_not false h = refl

or_left : (a b : Bool) → a ≡ true → (a || b) ≡ true
or_left true b h = refl
or_left false b h = absurd (cc)

or_right : (a b : Bool) → b ≡ true → (a || b) ≡ true
or_right true b h = refl
or_right false b h = h

pub or_cases : (a b : Bool) → (a || b) ≡ true → (a ≡ true) ⊎ (b ≡ true)
or_cases true b h = inl refl
or_cases false b h = inr h

pub never_both : {A : Type 0} (b : Bool) → b ≡ true → b ≡ false → A
never_both b h k = absurd (let e : true ≡ false = sym h ∙ k in cc)

same_is : (v w : List ℕ) → same v w ≡ true → v ≡ w
same_is [] [] h = refl
same_is [] (y ∷ ys) h = cc
same_is (x ∷ xs) [] h = cc
same_is (x ∷ xs) (y ∷ ys) h = λ i. eqb-true x y (left_is (x == y) (same xs ys) h) i ∷ same_is xs ys (right_is (x == y) (same xs ys) h) i

pub same_self : (w : List ℕ) → same w w ≡ true
same_self [] = refl
same_self (x ∷ xs) = and_is (x == x) (same xs xs) (eq-eqb x x refl) (same_self xs)

pub is_that : (w : List ℕ) (t : Token) → is_sign w t ≡ true → t ≡ Sign w
is_that w (Sign v) h = ap Sign (same_is v w h)
is_that w t h = absurd (cc)

-- ---- first tokens

-- of one kind; signs, where they are the same sign
abbrev pub like : Token → Token → Bool
like (Sign w) t = is_sign w t
like (Name v) t = name_token t
like (Number n) t = number_token t
like (Text v) t = text_token t
like End t = end_token t
like Bad t = false

-- of the kind of one of these
abbrev pub one_of : List Token → Token → Bool
one_of [] t = false
one_of (k ∷ ks) t = like k t || one_of ks t

abbrev pub among : List Token → List Token → Bool
among [] ks = true
among (h ∷ hs) ks = one_of ks h && among hs ks

abbrev pub of_rules : {A : Type 0} → (Symbol → List Token) → List (Rule A) → List Token
of_rules f [] = []
of_rules f (by [] m ∷ rs) = of_rules f rs
of_rules f (by (place n b ∷ bs) m ∷ rs) = f b ++ of_rules f rs

abbrev pub of_symbol : (Symbol → List Token) → Symbol → List Token
of_symbol f (word w) = Sign w ∷ []
of_symbol f NAME = Name [] ∷ []
of_symbol f (INT least most) = Number None ∷ []
of_symbol f TEXT = Text None ∷ []
of_symbol f END = End ∷ []
of_symbol f a = of_rules f (rules 0 a)

abbrev pub firsts_in : ℕ → Symbol → List Token
firsts_in zero = λ a. []
firsts_in (suc n) = of_symbol (firsts_in n)

-- the tokens that a symbol may begin with; from an expression to its first token it is ten rules
abbrev pub firsts : Symbol → List Token
firsts a = firsts_in 11 a

abbrev pub is_empty : {A : Type 0} → List A → Bool
is_empty [] = true
is_empty (x ∷ xs) = false

abbrev pub leaves_out : {A : Type 0} → Rule A → Bool
leaves_out (by bs f) = is_empty bs

-- whether a symbol may be no token
abbrev pub nullable : Symbol → Bool
nullable a = list_any leaves_out (rules 0 a)

-- whether these symbols may begin with the token
abbrev pub starts : List Place → Token → Bool
starts [] t = false
starts (place n a ∷ cs) t = one_of (firsts a) t || (nullable a && starts cs t)

abbrev pub vanishes : List Place → Bool
vanishes [] = true
vanishes (place n a ∷ cs) = nullable a && vanishes cs

-- whether a symbol has neither `script` nor the end in it
abbrev pub inner : Symbol → Bool
inner (word w) = not (same w (codes "script"))
inner END = false
inner the_end = false
inner deployment = false
inner a = true

abbrev pub all_inner : List Place → Bool
all_inner [] = true
all_inner (place n a ∷ cs) = inner a && all_inner cs

-- whether just the last of them has
abbrev pub ended : List Place → Bool
ended [] = false
ended (place n a ∷ cs) = if inner a then ended cs else is_empty cs

-- an INT in an expression has the widest limits
abbrev pub is_wide : Symbol → Bool
is_wide (INT least most) = (least == 0) && (most == 2 ^ 63 - 1)
is_wide a = true

-- what holds of each rule
abbrev pub fits : {A : Type 0} → Symbol → Rule A → Bool
fits a (by [] f) = nullable a && inner a
fits a (by (place n b ∷ bs) f) = among (firsts b) (firsts a) && (not (nullable b) && ((if inner a then all_inner (place n b ∷ bs) else ended (place n b ∷ bs)) && is_wide b))

all_fit : (n : ℕ) (a : Symbol) → list_all (fits a) (rules n a) ≡ true
all_fit n (word w) = refl
all_fit n a = refl

fit_of : {A : Type 0} (f : Rule A → Bool) (r : Rule A) (rs : List (Rule A)) → OneOf r rs → list_all f rs ≡ true → f r ≡ true
fit_of f r [] h k = absurd h
fit_of f r (s ∷ rs) (inl e) k = ap f e ∙ left_is (f s) (list_all f rs) k
fit_of f r (s ∷ rs) (inr h) k = fit_of f r rs h (right_is (f s) (list_all f rs) k)

pub fit : (n : ℕ) (a : Symbol) (r : Rule (Of a)) → OneOf r (rules n a) → fits a r ≡ true
fit n a r h = fit_of (fits a) r (rules n a) h (all_fit n a)

-- no rule begins with what may be no token
solid : (n m : ℕ) (a b : Symbol) (bs : List Place) (f : Act (place m b ∷ bs) (Of a)) → OneOf (by (place m b ∷ bs) f) (rules n a) → nullable b ≡ false
solid n m a b bs f r = is_not (nullable b) (left_is (not (nullable b)) _ (right_is (among (firsts b) (firsts a)) _ (fit n a (by (place m b ∷ bs) f) r)))

-- what is like a token that is like this
like_both : (k h t : Token) → like h t ≡ true → like k h ≡ true → like k t ≡ true
like_both (Sign w) h t e f = subst (λ u. like u t ≡ true) (is_that w h f) e
like_both (Name v) (Name u) t e f = e
like_both (Name v) h t e f = absurd (cc)
like_both (Number n) (Number m) t e f = e
like_both (Number n) h t e f = absurd (cc)
like_both (Text v) (Text u) t e f = e
like_both (Text v) h t e f = absurd (cc)
like_both End End t e f = e
like_both End h t e f = absurd (cc)
like_both Bad h t e f = absurd (cc)

one_like : (ks : List Token) (h t : Token) → like h t ≡ true → one_of ks h ≡ true → one_of ks t ≡ true
one_like [] h t e f = absurd (cc)
one_like (k ∷ ks) h t e f = elim (or_cases (like k h) (one_of ks h) f) [
  | inl g ↦ or_left (like k t) (one_of ks t) (like_both k h t e g)
  | inr g ↦ or_right (like k t) (one_of ks t) (one_like ks h t e g)
]

pub of_more : (hs ks : List Token) (t : Token) → among hs ks ≡ true → one_of hs t ≡ true → one_of ks t ≡ true
of_more [] ks t h e = absurd (cc)
of_more (k ∷ hs) ks t h e = elim (or_cases (like k t) (one_of hs t) e) [
  | inl g ↦ one_like ks k t g (left_is (one_of ks k) (among hs ks) h)
  | inr g ↦ of_more hs ks t (right_is (one_of ks k) (among hs ks) h) g
]

pub none_of_fewer : (hs ks : List Token) (t : Token) → among hs ks ≡ true → one_of ks t ≡ false → one_of hs t ≡ false
none_of_fewer hs ks t h e = elim (one_of hs t) as (λ b. one_of hs t ≡ b → b ≡ false) [
  | true ↦ λ g. never_both (one_of ks t) (of_more hs ks t h g) e
  | false ↦ λ g. refl
] refl

-- ---- what a derivation begins with

abbrev pub Gives : (cs : List Place) → Act cs Deployment → List Marked → Deployment → Type 0
Gives cs k us y = Yields Deployment cs k us y

abbrev Begun : List Place → List Marked → Type 0
Begun cs [] = vanishes cs ≡ true
Begun cs (u ∷ us) = starts cs u.lexeme.token ≡ true

-- a token begins itself
is_first : (a : Symbol) (t : Lexeme) (x : Of a) → IsToken a t x → one_of (firsts a) t.token ≡ true
is_first (word w) t x i = ap (one_of (Sign w ∷ [])) i.0 ∙ or_left (same w w) false (same_self w)
is_first NAME t x i = ap (one_of (Name [] ∷ [])) i
is_first (INT least most) t x (inl i) = ap (one_of (Number None ∷ [])) i
is_first (INT least most) t x (inr i) = ap (one_of (Number None ∷ [])) i
is_first TEXT t x (inl i) = ap (one_of (Text None ∷ [])) i
is_first TEXT t x (inr i) = ap (one_of (Text None ∷ [])) i
is_first END t x i = ap (one_of (End ∷ [])) i.0
is_first a t x i = absurd i

-- a rule that has symbols begins with the first of them
first_of_rule : (n m : ℕ) (a b : Symbol) (bs cs : List Place) (f : Act (place m b ∷ bs) (Of a)) (t : Token) → OneOf (by (place m b ∷ bs) f) (rules n a) → starts (place m b ∷ bs ++ cs) t ≡ true → (one_of (firsts b) t ≡ true) × (one_of (firsts a) t ≡ true)
first_of_rule n m a b bs cs f t r k =
    let e : one_of (firsts b) t ≡ true = elim (or_cases (one_of (firsts b) t) (nullable b && starts (bs ++ cs) t) k) [
      | inl g ↦ g
      | inr g ↦ never_both (nullable b) (left_is (nullable b) (starts (bs ++ cs) t) g) (solid n m a b bs f r)
    ] in
    (e, of_more (firsts b) (firsts a) t (left_is (among (firsts b) (firsts a)) _ (fit n a (by (place m b ∷ bs) f) r)) e)

by_rule : (n : ℕ) (a : Symbol) (r : Rule (Of a)) (cs : List Place) (us : List Marked) → OneOf r (rules n a) → Begun (shape r ++ cs) us → Begun (place n a ∷ cs) us
by_rule n a (by [] f) cs [] r k = and_is (nullable a) (vanishes cs) (left_is (nullable a) _ (fit n a (by [] f) r)) k
by_rule n a (by [] f) cs (u ∷ us) r k = or_right (one_of (firsts a) u.lexeme.token) (nullable a && starts cs u.lexeme.token) (and_is (nullable a) (starts cs u.lexeme.token) (left_is (nullable a) _ (fit n a (by [] f) r)) k)
by_rule n a (by (place m b ∷ bs) f) cs [] r k = never_both (nullable b) (left_is (nullable b) (vanishes (bs ++ cs)) k) (solid n m a b bs f r)
by_rule n a (by (place m b ∷ bs) f) cs (u ∷ us) r k = or_left (one_of (firsts a) u.lexeme.token) (nullable a && starts cs u.lexeme.token) (first_of_rule n m a b bs cs f u.lexeme.token r k).1

pub begun : (cs : List Place) (k : Act cs Deployment) (us : List Marked) (y : Deployment) → Gives cs k us y → Begun cs us
begun _ _ _ _ (nothing y) = refl
begun _ _ _ _ (token n a cs k u x us y i m h) = or_left (one_of (firsts a) u.lexeme.token) (nullable a && starts cs u.lexeme.token) (is_first a u.lexeme x i)
begun _ _ _ _ (phrase n a r cs k us y o h) = by_rule n a r cs us o (begun (shape r ++ cs) (means Deployment r cs k) us y h)

-- ---- which rule it goes by

pub token_rules : (n : ℕ) (a : Symbol) (t : Lexeme) (x : Of a) → IsToken a t x → rules n a ≡ []
token_rules n (word w) t x i = refl
token_rules n NAME t x i = refl
token_rules n (INT least most) t x i = refl
token_rules n TEXT t x i = refl
token_rules n END t x i = refl
token_rules n a t x i = absurd i

-- whether a rule begins with the token
abbrev pub opens_with : {A : Type 0} → Rule A → Token → Bool
opens_with (by [] f) t = false
opens_with (by (place n b ∷ bs) f) t = one_of (firsts b) t

-- the rules of which this holds
abbrev pub choose : {A : Type 0} → (Rule A → Bool) → List (Rule A) → List (Rule A)
choose p [] = []
choose p (r ∷ rs) = if p r then r ∷ choose p rs else choose p rs

-- the rules that may begin with the token
abbrev pub select : {A : Type 0} → List (Rule A) → Token → List (Rule A)
select rs t = choose (λ r. opens_with r t) rs

one_more : {A : Type 0} (x y : A) (ys : List A) (b : Bool) → OneOf x ys → OneOf x (if b then y ∷ ys else ys)
one_more x y ys true h = inr h
one_more x y ys false h = h

is_chosen : {A : Type 0} (p : Rule A → Bool) (r : Rule A) (rs : List (Rule A)) → p r ≡ true → OneOf r rs → OneOf r (choose p rs)
is_chosen p r [] e h = absurd h
is_chosen p r (s ∷ rs) e (inl h) =
    let g : p s ≡ true = subst (λ q. p q ≡ true) h e in
    subst (λ x. OneOf r (if x then s ∷ choose p rs else choose p rs)) (sym g) (inl h)
is_chosen p r (s ∷ rs) e (inr h) = one_more r s (choose p rs) (p s) (is_chosen p r rs e h)

of_either : {A : Type 0} (x y : A) (picks ys : List A) (b : Bool) → OneOf x (if b then y ∷ picks else picks) → (OneOf x picks → OneOf x ys) → OneOf x (y ∷ ys)
of_either x y picks ys true (inl e) f = inl e
of_either x y picks ys true (inr h) f = inr (f h)
of_either x y picks ys false h f = inr (f h)

of_chosen : {A : Type 0} (p : Rule A → Bool) (rs : List (Rule A)) (r : Rule A) → OneOf r (choose p rs) → OneOf r rs
of_chosen p [] r h = absurd h
of_chosen p (s ∷ rs) r h = of_either r s (choose p rs) rs (p s) h (of_chosen p rs r)

-- the only one that was chosen is a rule
pub chosen_rule : {A : Type 0} (p : Rule A → Bool) (rs : List (Rule A)) (r : Rule A) → choose p rs ≡ r ∷ [] → OneOf r rs
chosen_rule p rs r e = of_chosen p rs r (subst (OneOf r) (sym e) (inl refl))

alone : {A : Type 0} (x y : A) → OneOf x (y ∷ []) → x ≡ y
alone x y (inl e) = e
alone x y (inr h) = absurd h

only_chosen : {A : Type 0} (p : Rule A → Bool) (r s : Rule A) (rs : List (Rule A)) → p r ≡ true → OneOf r rs → choose p rs ≡ s ∷ [] → r ≡ s
only_chosen p r s rs e h g = alone r s (subst (OneOf r) g (is_chosen p r rs e h))

-- by this rule, and what follows
abbrev pub ByRule : (a : Symbol) (r : Rule (Of a)) (es : List Place) → (Of a → Act es Deployment) → List Marked → Deployment → Type 0
ByRule a r es k us y = Gives (shape r ++ es) (means Deployment r es k) us y

no_token : {B : Type 0} (n : ℕ) (a : Symbol) (t : Lexeme) (x : Of a) (r : Rule (Of a)) (rs : List (Rule (Of a))) → IsToken a t x → rules n a ≡ r ∷ rs → B
no_token n a t x r rs i e = absurd (let g : [] ≡ r ∷ rs = sym (token_rules n a t x i) ∙ e in cc)

none_chosen : {B : Type 0} (p : Rule B → Bool) (rs : List (Rule B)) (r : Rule B) → rs ≡ [] → choose p rs ≡ r ∷ [] → ⊥
none_chosen p rs r h e = let g : [] ≡ r ∷ [] = sym (ap (choose p) h) ∙ e in cc

rule_picked : (n : ℕ) (a : Symbol) (r s : Rule (Of a)) (es : List Place) (k : Of a → Act es Deployment) (u : Marked) (us : List Marked) (y : Deployment)
    → OneOf r (rules n a) → select (rules n a) u.lexeme.token ≡ s ∷ [] → (nullable a && starts es u.lexeme.token) ≡ false → ByRule a r es k (u ∷ us) y → ByRule a s es k (u ∷ us) y
rule_picked n a (by [] f) s es k u us y r e g h =
    never_both (nullable a && starts es u.lexeme.token) (and_is (nullable a) (starts es u.lexeme.token) (left_is (nullable a) _ (fit n a (by [] f) r)) (begun es (k f) (u ∷ us) y h)) g
rule_picked n a (by (place m b ∷ bs) f) s es k u us y r e g h =
    let p = first_of_rule n m a b bs es f u.lexeme.token r (begun (place m b ∷ bs ++ es) (means Deployment (by (place m b ∷ bs) f) es k) (u ∷ us) y h) in
    let o : by (place m b ∷ bs) f ≡ s = only_chosen (λ c. opens_with c u.lexeme.token) (by (place m b ∷ bs) f) s (rules n a) p.0 r e in
    subst (λ c. ByRule a c es k (u ∷ us) y) o h

-- the one that may begin with the token, where what follows may not
pub picked : (n : ℕ) (a : Symbol) (r : Rule (Of a)) (es : List Place) (k : Of a → Act es Deployment) (u : Marked) (us : List Marked) (y : Deployment)
    → select (rules n a) u.lexeme.token ≡ r ∷ [] → (nullable a && starts es u.lexeme.token) ≡ false → Gives (place n a ∷ es) k (u ∷ us) y → ByRule a r es k (u ∷ us) y
picked n a r es k u us y e f (token _ _ _ _ _ x _ _ i m h) = absurd (none_chosen (λ c. opens_with c u.lexeme.token) (rules n a) r (token_rules n a u.lexeme x i) e)
picked n a r es k u us y e f (phrase _ _ s _ _ _ _ o h) = rule_picked n a s r es k u us y o e f h

rule_skipped : (n : ℕ) (a : Symbol) (r : Rule (Of a)) (x : Of a) (es : List Place) (k : Of a → Act es Deployment) (u : Marked) (us : List Marked) (y : Deployment)
    → OneOf r (rules n a) → choose leaves_out (rules n a) ≡ by [] x ∷ [] → one_of (firsts a) u.lexeme.token ≡ false → ByRule a r es k (u ∷ us) y → Gives es (k x) (u ∷ us) y
rule_skipped n a (by [] f) x es k u us y r e g h = subst (λ c. ByRule a c es k (u ∷ us) y) (only_chosen leaves_out (by [] f) (by [] x) (rules n a) refl r e) h
rule_skipped n a (by (place m b ∷ bs) f) x es k u us y r e g h =
    never_both (one_of (firsts a) u.lexeme.token) (first_of_rule n m a b bs es f u.lexeme.token r (begun (place m b ∷ bs ++ es) (means Deployment (by (place m b ∷ bs) f) es k) (u ∷ us) y h)).1 g

-- none, where the symbol does not begin with the token
pub skipped : (n : ℕ) (a : Symbol) (x : Of a) (es : List Place) (k : Of a → Act es Deployment) (u : Marked) (us : List Marked) (y : Deployment)
    → choose leaves_out (rules n a) ≡ by [] x ∷ [] → one_of (firsts a) u.lexeme.token ≡ false → Gives (place n a ∷ es) k (u ∷ us) y → Gives es (k x) (u ∷ us) y
skipped n a x es k u us y e f (token _ _ _ _ _ z _ _ i m h) = never_both (one_of (firsts a) u.lexeme.token) (is_first a u.lexeme z i) f
skipped n a x es k u us y e f (phrase _ _ r _ _ _ _ o h) = rule_skipped n a r x es k u us y o e f h

rule_vanished : (n : ℕ) (a : Symbol) (r : Rule (Of a)) (x : Of a) (es : List Place) (k : Of a → Act es Deployment) (y : Deployment)
    → OneOf r (rules n a) → choose leaves_out (rules n a) ≡ by [] x ∷ [] → ByRule a r es k [] y → Gives es (k x) [] y
rule_vanished n a (by [] f) x es k y r e h = subst (λ c. ByRule a c es k [] y) (only_chosen leaves_out (by [] f) (by [] x) (rules n a) refl r e) h
rule_vanished n a (by (place m b ∷ bs) f) x es k y r e h =
    never_both (nullable b) (left_is (nullable b) (vanishes (bs ++ es)) (begun (place m b ∷ bs ++ es) (means Deployment (by (place m b ∷ bs) f) es k) [] y h)) (solid n m a b bs f r)

pub vanished : (n : ℕ) (a : Symbol) (x : Of a) (es : List Place) (k : Of a → Act es Deployment) (y : Deployment)
    → choose leaves_out (rules n a) ≡ by [] x ∷ [] → Gives (place n a ∷ es) k [] y → Gives es (k x) [] y
vanished n a x es k y e (phrase _ _ r _ _ _ _ o h) = rule_vanished n a r x es k y o e h

one_or_other : {A B : Type 0} (x y z : A) → OneOf x (y ∷ z ∷ []) → (x ≡ y → B) → (x ≡ z → B) → B
one_or_other x y z (inl e) f g = f e
one_or_other x y z (inr (inl e)) f g = g e
one_or_other x y z (inr (inr h)) f g = absurd h

-- the only one
pub sole : (n : ℕ) (a : Symbol) (r : Rule (Of a)) (es : List Place) (k : Of a → Act es Deployment) (us : List Marked) (y : Deployment) → rules n a ≡ r ∷ [] → Gives (place n a ∷ es) k us y → ByRule a r es k us y
sole n a r es k _ y e (token _ _ _ _ u x us _ i m h) = no_token n a u.lexeme x r [] i e
sole n a r es k us y e (phrase _ _ s _ _ _ _ o h) = subst (λ c. ByRule a c es k us y) (alone s r (subst (OneOf s) e o)) h

-- one of two, where the other is excluded
pub first_of_two : (n : ℕ) (a : Symbol) (r s : Rule (Of a)) (es : List Place) (k : Of a → Act es Deployment) (us : List Marked) (y : Deployment) → rules n a ≡ r ∷ s ∷ [] → (ByRule a s es k us y → ⊥) → Gives (place n a ∷ es) k us y → ByRule a r es k us y
first_of_two n a r s es k _ y e c (token _ _ _ _ u x us _ i m h) = no_token n a u.lexeme x r (s ∷ []) i e
first_of_two n a r s es k us y e c (phrase _ _ p _ _ _ _ o h) =
    one_or_other p r s (subst (OneOf p) e o) (λ f. subst (λ x. ByRule a x es k us y) f h) (λ f. absurd (c (subst (λ x. ByRule a x es k us y) f h)))

pub second_of_two : (n : ℕ) (a : Symbol) (r s : Rule (Of a)) (es : List Place) (k : Of a → Act es Deployment) (us : List Marked) (y : Deployment) → rules n a ≡ r ∷ s ∷ [] → (ByRule a r es k us y → ⊥) → Gives (place n a ∷ es) k us y → ByRule a s es k us y
second_of_two n a r s es k _ y e c (token _ _ _ _ u x us _ i m h) = no_token n a u.lexeme x r (s ∷ []) i e
second_of_two n a r s es k us y e c (phrase _ _ p _ _ _ _ o h) =
    one_or_other p r s (subst (OneOf p) e o) (λ f. absurd (c (subst (λ x. ByRule a x es k us y) f h))) (λ f. subst (λ x. ByRule a x es k us y) f h)

-- ---- what may not follow

-- what follows begins with none of these signs
abbrev pub avoids : List (List ℕ) → List Place → Bool
avoids [] es = true
avoids (w ∷ ws) es = not (starts es (Sign w)) && avoids ws es

abbrev pub listed_in : List (List ℕ) → List ℕ → Bool
listed_in [] w = false
listed_in (v ∷ vs) w = same v w || listed_in vs w

pub avoided : (ws : List (List ℕ)) (es : List Place) (w : List ℕ) → listed_in ws w ≡ true → avoids ws es ≡ true → starts es (Sign w) ≡ false
avoided [] es w h k = absurd (cc)
avoided (v ∷ ws) es w h k = elim (or_cases (same v w) (listed_in ws w) h) [
  | inl e ↦ subst (λ u. starts es (Sign u) ≡ false) (same_is v w e) (is_not (starts es (Sign v)) (left_is (not (starts es (Sign v))) (avoids ws es) k))
  | inr e ↦ avoided ws es w e (right_is (not (starts es (Sign v))) (avoids ws es) k)
]

pub avoids_rest : (vs ws : List (List ℕ)) (es : List Place) → avoids (vs ++ ws) es ≡ true → avoids ws es ≡ true
avoids_rest [] ws es h = h
avoids_rest (v ∷ vs) ws es h = avoids_rest vs ws es (right_is (not (starts es (Sign v))) (avoids (vs ++ ws) es) h)
