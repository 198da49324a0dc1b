-- What a phrase reads is of the grammar, and nothing else that begins so is.
use Rattle.std.specs.Prelude.{length}
use Rattle.beldi_syntax.{specs.Phrase.take, proofs.Fill.fills}
use Rattle.beldi_syntax.proofs.Names.{Act, Bool, Deployment, END, INT, IsToken, Lexeme, List, Marked, NAME, Name, None, Number, Of, OfNumber, OneOf, Option, Place, Read, Rule, Sign, Some, Symbol, Syntax, TEXT, Text, Token, TooDeep, TooLarge, Utf8, What, [], after, after_first, ap, append_assoc, arith, bad, by, false, give, go_on, got, if◌then◌else◌, in_range, inl, inr, is_long, is_outside, limit, line_of, marked, means, name, name_of, nat_le, next_is, not, number, number_of, phrase, place, refl, refuse, repeated, rules, shape, subst, suc, sym, text, text_of, token, true, word, zero, ℕ, ◌&&◌, ◌++◌, ◌<◌, ◌>>=◌, ◌||◌, ◌∙◌, ◌∷◌, ◌≡◌, ◌≤◌}
use Rattle.beldi_syntax.proofs.Lookahead.{Gives, ByRule, among, none_of_fewer, choose, leaves_out, chosen_rule, one_of, firsts, nullable, starts, vanishes, begun, select, picked, skipped, vanished, sole, left_is, or_cases, never_both, same_self, is_that}

-- symbols that are still expected, and what is made of them
pub record Stack : Type 0 where
  pub cs : List Place
  pub k : Act cs Deployment

abbrev pub stack : (cs : List Place) → Act cs Deployment → Stack
stack cs k = record { cs = cs; k = k }

abbrev pub Makes : Stack → List Marked → Deployment → Type 0
Makes f us y = Gives f.cs f.k us y

-- a text and tokens that begin alike
abbrev pub Meets : List Lexeme → List Marked → Type 0
Meets [] [] = Unit {0}
Meets [] (u ∷ v) = ⊥
Meets (l ∷ ls) [] = ⊥
Meets (l ∷ ls) (u ∷ v) = l ≡ u.lexeme

-- on this text one stack is as good as the other
pub record Step (f g : Stack) (s : List Lexeme) : Type 0 where
  pub back : (v : List Marked) (y : Deployment) → Makes g v y → Makes f v y
  pub on : (v : List Marked) (y : Deployment) → Meets s v → Makes f v y → Makes g v y

-- from one stack to another, over the tokens between two texts, which break no limit
pub data Run : Stack → List Lexeme → Stack → List Lexeme → Type 0 where
  here : (f : Stack) (s : List Lexeme) → Run f s f s
  took : (n : ℕ) (a : Symbol) (cs : List Place) (k : Of a → Act cs Deployment) (t : Lexeme) (x : Of a) (s : List Lexeme) (g : Stack) (r : List Lexeme)
      → IsToken a t x → limit n a t.token ≡ None → Run (stack cs (k x)) s g r → Run (stack (place n a ∷ cs) k) (t ∷ s) g r
  went : (f h : Stack) (s : List Lexeme) (g : Stack) (r : List Lexeme) → Step f h s → Run h s g r → Run f s g r

pub and_on : (f g h : Stack) (s r u : List Lexeme) → Run f s g r → Run g r h u → Run f s h u
and_on _ _ h _ _ u (here f s) k = k
and_on _ _ h _ _ u (took n a cs m t x s g r i l e) k = took n a cs m t x s h u i l (and_on (stack cs (m x)) g h s r u e k)
and_on _ _ h _ _ u (went f j s g r d e) k = went f j s h u d (and_on j g h s r u e k)

kept : (f g : Stack) (s r : List Lexeme) → Run f s g r → length r ≤ length s
kept _ _ _ _ (here f s) = omega arith
kept _ _ _ _ (took n a cs m t x s g r i l e) = let k = kept (stack cs (m x)) g s r e in omega (arith, k)
kept _ _ _ _ (went f j s g r d e) = kept j g s r e

-- ---- what is said of a refusal

-- the next token breaks this limit
pub record Broken (g : Stack) (s : List Lexeme) (what : What) : Type 0 where
  pub first : Lexeme
  pub rest : List Lexeme
  pub more : List Marked
  pub code : Deployment
  pub all : s ≡ first ∷ rest
  pub goes : Makes g (marked (Some what) first ∷ more) code
  pub sure : (m : Option What) (v : List Marked) (y : Deployment) → Makes g (marked m first ∷ v) y → m ≡ Some what

-- no deployment goes on with the next token
pub record Never (g : Stack) (s : List Lexeme) : Type 0 where
  pub never : (v : List Marked) (y : Deployment) → Meets s v → Makes g v y → ⊥

abbrev pub Stuck : Stack → List Lexeme → What → Type 0
Stuck g s Utf8 = ⊥
Stuck g s Syntax = Never g s
Stuck g s OfNumber = Broken g s OfNumber
Stuck g s TooDeep = Broken g s TooDeep
Stuck g s TooLarge = Broken g s TooLarge

-- over tokens that break no limit, up to a token in this line with a cause
pub record Halt (f : Stack) (s : List Lexeme) (line : ℕ) (what : What) : Type 0 where
  pub stop : Stack
  pub left : List Lexeme
  pub run : Run f s stop left
  pub line_is : line ≡ line_of left
  pub stuck : Stuck stop left what

-- what is said of a text by what is read of it
abbrev pub Explained : {A : Type 0} → Read A → Stack → (A → Stack) → List Lexeme → Type 0
Explained (got x r) f g s = Run f s (g x) r
Explained (bad line what) f g s = Halt f s line what

-- a phrase leads from one stack to another
pub record Sound {A : Type 0} (p : List Lexeme → Read A) (f : Stack) (g : A → Stack) : Type 0 where
  pub told : (s : List Lexeme) → Explained (p s) f g s

-- ---- phrases one after another

halt_on : (f g : Stack) (s r : List Lexeme) (line : ℕ) (what : What) → Run f s g r → Halt g r line what → Halt f s line what
halt_on f g s r line what e h = record { stop = h.stop; left = h.left; run = and_on f g h.stop s r h.left e h.run; line_is = h.line_is; stuck = h.stuck }

-- after a run
pub told_on : {A : Type 0} (q : Read A) (f g : Stack) (h : A → Stack) (s r : List Lexeme) → Run f s g r → Explained q g h r → Explained q f h s
told_on (got x u) f g h s r e k = and_on f g (h x) s r u e k
told_on (bad line what) f g h s r e k = halt_on f g s r line what e k

pub told_then : {A B : Type 0} (q : Read A) (p : A → List Lexeme → Read B) (f : Stack) (g : A → Stack) (h : B → Stack) (s : List Lexeme) → Explained q f g s → ((x : A) → Sound (p x) (g x) h) → Explained (after q p) f h s
told_then (got x r) p f g h s e k = told_on (p x r) f (g x) h s r e ((k x).told r)
told_then (bad line what) p f g h s e k = e

pub seq : {A B : Type 0} {p : List Lexeme → Read A} {m : A → List Lexeme → Read B} {f : Stack} {g : A → Stack} {h : B → Stack} → Sound p f g → ((x : A) → Sound (m x) (g x) h) → Sound (p >>= m) f h
seq {p = p} {m = m} {f = f} {g = g} {h = h} d k = record { told = λ s. told_then (p s) m f g h s (d.told s) k }

pub given : {A : Type 0} (x : A) (g : A → Stack) → Sound (give x) (g x) g
given x g = record { told = λ s. here (g x) s }

pub told_made : {A B : Type 0} (q : Read A) (m : A → B) (f : Stack) (g : B → Stack) (s : List Lexeme) → Explained q f (λ x. g (m x)) s → Explained (after q (λ x. give (m x))) f g s
told_made (got x r) m f g s h = h
told_made (bad line what) m f g s h = h

-- a phrase, and what is made of it
pub made : {A B : Type 0} {p : List Lexeme → Read A} {f : Stack} {g : B → Stack} (m : A → B) → Sound p f (λ x. g (m x)) → Sound (p >>= λ x. give (m x)) f g
made {p = p} {f = f} {g = g} m h = record { told = λ s. told_made (p s) m f g s (h.told s) }

-- where one stack is as good as another
pub told_by : {A : Type 0} (q : Read A) (f j : Stack) (h : A → Stack) (s : List Lexeme) → Step f j s → Explained q j h s → Explained q f h s
told_by q f j h s d e = told_on q f j h s s (went f j s j s d (here j s)) e

-- one or the other
pub told_if : {A : Type 0} (b : Bool) (q r : Read A) (f : Stack) (h : A → Stack) (s : List Lexeme) → (b ≡ true → Explained q f h s) → (b ≡ false → Explained r f h s) → Explained (if b then q else r) f h s
told_if true q r f h s d e = d refl
told_if false q r f h s d e = e refl

-- ---- rules

-- a symbol and what is made of it, with what follows
abbrev pub push : ℕ → (a : Symbol) → (es : List Place) → (Of a → Act es Deployment) → Stack
push n a es k = stack (place n a ∷ es) k

-- a symbol's rule in its place
abbrev pub opened : (a : Symbol) → Rule (Of a) → (es : List Place) → (Of a → Act es Deployment) → Stack
opened a r es k = stack (shape r ++ es) (means Deployment r es k)

pub by_rule : (n : ℕ) (a : Symbol) (r : Rule (Of a)) (es : List Place) (k : Of a → Act es Deployment) (s : List Lexeme) → OneOf r (rules n a)
    → ((v : List Marked) (y : Deployment) → Meets s v → Gives (place n a ∷ es) k v y → ByRule a r es k v y) → Step (push n a es k) (opened a r es k) s
by_rule n a r es k s o d = record { back = λ v y h. phrase n a r es k v y o h; on = d }

-- the only one
pub sole_step : (n : ℕ) (a : Symbol) (r : Rule (Of a)) (es : List Place) (k : Of a → Act es Deployment) (s : List Lexeme) → rules n a ≡ r ∷ [] → Step (push n a es k) (opened a r es k) s
sole_step n a r es k s e = by_rule n a r es k s (subst (OneOf r) (sym e) (inl refl)) (λ v y m h. sole n a r es k v y e h)

-- a symbol that has one rule
pub ruled : {A : Type 0} {p : List Lexeme → Read A} {h : A → Stack} (n : ℕ) (a : Symbol) (r : Rule (Of a)) (es : List Place) (k : Of a → Act es Deployment) → rules n a ≡ r ∷ [] → Sound p (opened a r es k) h → Sound p (push n a es k) h
ruled {p = p} {h = h} n a r es k e d = record { told = λ s. told_by (p s) (push n a es k) (opened a r es k) h s (sole_step n a r es k s e) (d.told s) }

-- ---- one token

-- so many levels may be open
abbrev pub Low : ℕ → Type 0
Low n = nat_le n 64 ≡ true

-- whether the next token is of the kind of one of these
abbrev opens : List Token → List Lexeme → Bool
opens ks [] = false
opens ks (l ∷ ls) = one_of ks l.token

pub record NoneOf (ks : List Token) (s : List Lexeme) : Type 0 where
  pub is : opens ks s ≡ false

pub nothing_of : (s : List Lexeme) → NoneOf [] s
nothing_of [] = record { is = refl }
nothing_of (l ∷ ls) = record { is = refl }

pub also_not : (w : List ℕ) (ks : List Token) (s : List Lexeme) → next_is w s ≡ false → NoneOf ks s → NoneOf (Sign w ∷ ks) s
also_not w ks [] h n = record { is = refl }
also_not w ks (l ∷ ls) h n = record { is = ap (λ b. b || one_of ks l.token) h ∙ n.is }

-- what begins with none of a symbol's first tokens is not that symbol
cannot : {ks : List Token} (n : ℕ) (a : Symbol) (es : List Place) (k : Of a → Act es Deployment) (s : List Lexeme) → nullable a ≡ false → among (firsts a) ks ≡ true → NoneOf ks s → (v : List Marked) (y : Deployment) → Meets s v → Gives (place n a ∷ es) k v y → ⊥
cannot n a es k [] z f h [] y m d = never_both (nullable a) (left_is (nullable a) (vanishes es) (begun (place n a ∷ es) k [] y d)) z
cannot n a es k [] z f h (u ∷ v) y m d = m
cannot n a es k (l ∷ ls) z f h [] y m d = m
cannot {ks = ks} n a es k (l ∷ ls) z f h (u ∷ v) y m d = elim (or_cases (one_of (firsts a) u.lexeme.token) (nullable a && starts es u.lexeme.token) (begun (place n a ∷ es) k (u ∷ v) y d)) [
  | inl g ↦ never_both (one_of (firsts a) u.lexeme.token) g (none_of_fewer (firsts a) ks u.lexeme.token f (subst (λ t. one_of ks t.token ≡ false) m h.is))
  | inr g ↦ never_both (nullable a) (left_is (nullable a) (starts es u.lexeme.token) g) z
]

-- or it is nothing of it
skipping : {ks : List Token} (n : ℕ) (a : Symbol) (x : Of a) (es : List Place) (k : Of a → Act es Deployment) (s : List Lexeme) → choose leaves_out (rules n a) ≡ by [] x ∷ [] → among (firsts a) ks ≡ true → NoneOf ks s
    → (v : List Marked) (y : Deployment) → Meets s v → Gives (place n a ∷ es) k v y → Gives es (k x) v y
skipping n a x es k [] e f h [] y m d = vanished n a x es k y e d
skipping n a x es k [] e f h (u ∷ v) y m d = absurd m
skipping n a x es k (l ∷ ls) e f h [] y m d = absurd m
skipping {ks = ks} n a x es k (l ∷ ls) e f h (u ∷ v) y m d = skipped n a x es k u v y e (none_of_fewer (firsts a) ks u.lexeme.token f (subst (λ t. one_of ks t.token ≡ false) m h.is)) d

pub skips : {ks : List Token} (n : ℕ) (a : Symbol) (x : Of a) (es : List Place) (k : Of a → Act es Deployment) (s : List Lexeme) → choose leaves_out (rules n a) ≡ by [] x ∷ [] → among (firsts a) ks ≡ true → NoneOf ks s → Step (push n a es k) (stack es (k x)) s
skips {ks = ks} n a x es k s e f h = by_rule n a (by [] x) es k s (chosen_rule leaves_out (rules n a) (by [] x) e) (skipping {ks = ks} n a x es k s e f h)

-- where nothing is left, it is nothing of it
end_skips : (n : ℕ) (a : Symbol) (x : Of a) (es : List Place) (k : Of a → Act es Deployment) → choose leaves_out (rules n a) ≡ by [] x ∷ [] → (v : List Marked) (y : Deployment) → Meets [] v → Gives (place n a ∷ es) k v y → Gives es (k x) v y
end_skips n a x es k e [] y m d = vanished n a x es k y e d
end_skips n a x es k e (u ∷ v) y m d = absurd m

pub skips_end : (n : ℕ) (a : Symbol) (x : Of a) (es : List Place) (k : Of a → Act es Deployment) → choose leaves_out (rules n a) ≡ by [] x ∷ [] → Step (push n a es k) (stack es (k x)) []
skips_end n a x es k e = by_rule n a (by [] x) es k [] (chosen_rule leaves_out (rules n a) (by [] x) e) (end_skips n a x es k e)

-- the next token decides
pub by_next : (t : Token) (n : ℕ) (a : Symbol) (r : Rule (Of a)) (es : List Place) (k : Of a → Act es Deployment) (u : Marked) (v : List Marked) (y : Deployment) → select (rules n a) t ≡ r ∷ [] → (nullable a && starts es t) ≡ false → t ≡ u.lexeme.token → Gives (place n a ∷ es) k (u ∷ v) y → ByRule a r es k (u ∷ v) y
by_next t n a r es k u v y e f g d = picked n a r es k u v y (subst (λ w. select (rules n a) w ≡ r ∷ []) g e) (subst (λ w. (nullable a && starts es w) ≡ false) g f) d

signed_by : (w : List ℕ) (n : ℕ) (a : Symbol) (r : Rule (Of a)) (es : List Place) (k : Of a → Act es Deployment) (s : List Lexeme) → next_is w s ≡ true → select (rules n a) (Sign w) ≡ r ∷ [] → (nullable a && starts es (Sign w)) ≡ false
    → (v : List Marked) (y : Deployment) → Meets s v → Gives (place n a ∷ es) k v y → ByRule a r es k v y
signed_by w n a r es k [] h e f v y m d = absurd (cc)
signed_by w n a r es k (l ∷ ls) h e f [] y m d = absurd m
signed_by w n a r es k (l ∷ ls) h e f (u ∷ v) y m d = by_next (Sign w) n a r es k u v y e f (sym (is_that w l.token h) ∙ ap (λ t. t.token) m) d

pub by_sign : (w : List ℕ) (n : ℕ) (a : Symbol) (r : Rule (Of a)) (es : List Place) (k : Of a → Act es Deployment) (s : List Lexeme) → next_is w s ≡ true → select (rules n a) (Sign w) ≡ r ∷ [] → (nullable a && starts es (Sign w)) ≡ false → Step (push n a es k) (opened a r es k) s
by_sign w n a r es k s h e f = by_rule n a r es k s (chosen_rule _ (rules n a) r e) (signed_by w n a r es k s h e f)

sign_skipping : (w : List ℕ) (n : ℕ) (a : Symbol) (x : Of a) (es : List Place) (k : Of a → Act es Deployment) (s : List Lexeme) → choose leaves_out (rules n a) ≡ by [] x ∷ [] → next_is w s ≡ true → one_of (firsts a) (Sign w) ≡ false
    → (v : List Marked) (y : Deployment) → Meets s v → Gives (place n a ∷ es) k v y → Gives es (k x) v y
sign_skipping w n a x es k [] c h e v y m d = absurd (cc)
sign_skipping w n a x es k (l ∷ ls) c h e [] y m d = absurd m
sign_skipping w n a x es k (l ∷ ls) c h e (u ∷ v) y m d = skipped n a x es k u v y c (subst (λ t. one_of (firsts a) t ≡ false) (sym (is_that w l.token h) ∙ ap (λ t. t.token) m) e) d

pub sign_skips : (w : List ℕ) (n : ℕ) (a : Symbol) (x : Of a) (es : List Place) (k : Of a → Act es Deployment) (s : List Lexeme) → choose leaves_out (rules n a) ≡ by [] x ∷ [] → next_is w s ≡ true → one_of (firsts a) (Sign w) ≡ false → Step (push n a es k) (stack es (k x)) s
sign_skips w n a x es k s c h e = by_rule n a (by [] x) es k s (chosen_rule leaves_out (rules n a) (by [] x) c) (sign_skipping w n a x es k s c h e)

-- nothing that begins so begins with this sign
pub not_sign : (w : List ℕ) (n : ℕ) (es : List Place) (k : ℕ → Act es Deployment) (s : List Lexeme) → next_is w s ≡ false → (v : List Marked) (y : Deployment) → Meets s v → Gives (place n (word w) ∷ es) k v y → ⊥
not_sign w n es k s h = cannot n (word w) es k s refl (ap (λ b. (b || false) && true) (same_self w)) (also_not w [] s h (nothing_of s))

pub free : (n : ℕ) (a : Symbol) (t : Token) → is_outside a t ≡ false → Low n → is_long t ≡ false → limit n a t ≡ None
free n a t o l d =
    ap (λ b. if b then Some OfNumber else if not (nat_le n 64) then Some TooDeep else if is_long t then Some TooLarge else None) o
    ∙ ap (λ b. if not b then Some TooDeep else if is_long t then Some TooLarge else None) l ∙ ap (λ b. if b then Some TooLarge else None) d

pub one : (n : ℕ) (a : Symbol) (es : List Place) (k : Of a → Act es Deployment) (t : Lexeme) (x : Of a) (s : List Lexeme) → IsToken a t x → limit n a t.token ≡ None → Run (push n a es k) (t ∷ s) (stack es (k x)) s
one n a es k t x s i l = took n a es k t x s (stack es (k x)) s i l (here (stack es (k x)) s)

pub first_took : (w : List ℕ) (n : ℕ) (es : List Place) (k : ℕ → Act es Deployment) (s : List Lexeme) → Low n → next_is w s ≡ true → Run (push n (word w) es k) s (stack es (k (line_of s))) (after_first s)
first_took w n es k [] l h = absurd (cc)
first_took w n es k (t ∷ ts) l h = let e = is_that w t.token h in one n (word w) es k t t.line ts (e, refl) (free n (word w) t.token refl l (ap is_long e))

-- where a text is refused here
pub halted : (f : Stack) (s : List Lexeme) (what : What) → Stuck f s what → Halt f s (line_of s) what
halted f s what h = record { stop = f; left = s; run = here f s; line_is = refl; stuck = h }

pub told_bad : {ks : List Token} (n : ℕ) (a : Symbol) (es : List Place) (k : Of a → Act es Deployment) (s : List Lexeme) → nullable a ≡ false → among (firsts a) ks ≡ true → NoneOf ks s → Halt (push n a es k) s (line_of s) Syntax
told_bad {ks = ks} n a es k s z f h = halted (push n a es k) s Syntax (record { never = cannot {ks = ks} n a es k s z f h })

pub taken : (w : List ℕ) (n : ℕ) (es : List Place) (k : Act es Deployment) → Low n → Sound (take w) (stack (place n (word w) ∷ es) (λ line. k)) (λ u. stack es k)
taken w n es k l = record { told = λ s. told_if (next_is w s) (got tt (after_first s)) (refuse Syntax s) _ _ s (λ i. first_took w n es (λ line. k) s l i) (λ i. halted _ s Syntax (record { never = not_sign w n es (λ line. k) s i })) }

name_told : (c : Token) (n : ℕ) (es : List Place) (k : List ℕ → Act es Deployment) (t : Lexeme) (ts : List Lexeme) → Low n → t.token ≡ c → Explained (name_of c (t ∷ ts) ts) (push n NAME es k) (λ x. stack es (k x)) (t ∷ ts)
name_told (Name v) n es k t ts l g = one n NAME es k t v ts g (free n NAME t.token refl l (ap is_long g))
name_told c n es k t ts l g = told_bad {ks = Name [] ∷ []} n NAME es k (t ∷ ts) refl refl (record { is = ap (one_of (Name [] ∷ [])) g })

nothing_read : (ks : List Token) (n : ℕ) (a : Symbol) (es : List Place) (k : Of a → Act es Deployment) → nullable a ≡ false → among (firsts a) ks ≡ true → Halt (push n a es k) [] 0 Syntax
nothing_read ks n a es k z f = told_bad {ks = ks} n a es k [] z f (record { is = refl })

name_read : (n : ℕ) (es : List Place) (k : List ℕ → Act es Deployment) (s : List Lexeme) → Low n → Explained (name s) (push n NAME es k) (λ x. stack es (k x)) s
name_read n es k [] l = nothing_read (Name [] ∷ []) n NAME es k refl refl
name_read n es k (t ∷ ts) l = name_told t.token n es k t ts l refl

pub named : (n : ℕ) (es : List Place) (k : List ℕ → Act es Deployment) → Low n → Sound name (stack (place n NAME ∷ es) k) (λ x. stack es (k x))
named n es k l = record { told = λ s. name_read n es k s l }

-- ---- a token that breaks a limit

pub token_mark : (n : ℕ) (a : Symbol) (es : List Place) (k : Of a → Act es Deployment) (u : Marked) (v : List Marked) (y : Deployment) → rules n a ≡ [] → Gives (place n a ∷ es) k (u ∷ v) y → u.breaks ≡ limit n a u.lexeme.token
token_mark n a es k u v y e (token _ _ _ _ _ x _ _ i m d) = m
token_mark n a es k u v y e (phrase _ _ r _ _ _ _ o d) = absurd (subst (OneOf r) e o)

broken : (n : ℕ) (a : Symbol) (es : List Place) (k : Of a → Act es Deployment) (t : Lexeme) (x : Of a) (s : List Lexeme) (what : What) → rules n a ≡ [] → IsToken a t x → limit n a t.token ≡ Some what → Broken (push n a es k) (t ∷ s) what
broken n a es k t x s what e i l = record {
  first = t;
  rest = s;
  more = (fills es (k x)).us;
  code = (fills es (k x)).code;
  all = refl;
  goes = token n a es k (marked (Some what) t) x (fills es (k x)).us (fills es (k x)).code i (sym l) (fills es (k x)).yields;
  sure = λ m v y d. token_mark n a es k (marked m t) v y e d ∙ l;
}

too_large : (n : ℕ) (t : Token) → Low n → t ≡ Text None → limit n TEXT t ≡ Some TooLarge
too_large n t l e = ap (limit n TEXT) e ∙ ap (λ b. if not b then Some TooDeep else Some TooLarge) l

text_told : (c : Token) (n : ℕ) (es : List Place) (k : List ℕ → Act es Deployment) (t : Lexeme) (ts : List Lexeme) → Low n → t.token ≡ c → Explained (text_of c (t ∷ ts) ts) (push n TEXT es k) (λ x. stack es (k x)) (t ∷ ts)
text_told (Text None) n es k t ts l g = halted (push n TEXT es k) (t ∷ ts) TooLarge (broken n TEXT es k t [] ts TooLarge refl (inr g) (too_large n t.token l g))
text_told (Text (Some v)) n es k t ts l g = one n TEXT es k t v ts (inl g) (free n TEXT t.token refl l (ap is_long g))
text_told c n es k t ts l g = told_bad {ks = Text None ∷ []} n TEXT es k (t ∷ ts) refl refl (record { is = ap (one_of (Text None ∷ [])) g })

text_read : (n : ℕ) (es : List Place) (k : List ℕ → Act es Deployment) (s : List Lexeme) → Low n → Explained (text s) (push n TEXT es k) (λ x. stack es (k x)) s
text_read n es k [] l = nothing_read (Text None ∷ []) n TEXT es k refl refl
text_read n es k (t ∷ ts) l = text_told t.token n es k t ts l refl

pub texted : (n : ℕ) (es : List Place) (k : List ℕ → Act es Deployment) → Low n → Sound text (stack (place n TEXT ∷ es) k) (λ x. stack es (k x))
texted n es k l = record { told = λ s. text_read n es k s l }

outside : (n least most : ℕ) (t : Token) (m : Option ℕ) → t ≡ Number m → in_range least most m ≡ false → limit n (INT least most) t ≡ Some OfNumber
outside n least most t m e h = ap (limit n (INT least most)) e ∙ ap (λ b. if not b then Some OfNumber else if not (nat_le n 64) then Some TooDeep else None) h

inside : (n least most : ℕ) (t : Token) (m : ℕ) → Low n → t ≡ Number (Some m) → in_range least most (Some m) ≡ true → limit n (INT least most) t ≡ None
inside n least most t m l e h = free n (INT least most) t (ap (is_outside (INT least most)) e ∙ ap not h) l (ap is_long e)

number_told : (least most : ℕ) (c : Token) (n : ℕ) (es : List Place) (k : ℕ → Act es Deployment) (t : Lexeme) (ts : List Lexeme) → Low n → t.token ≡ c → Explained (number_of least most c (t ∷ ts) ts) (push n (INT least most) es k) (λ x. stack es (k x)) (t ∷ ts)
number_told least most (Number None) n es k t ts l g = halted (push n (INT least most) es k) (t ∷ ts) OfNumber (broken n (INT least most) es k t 0 ts OfNumber refl (inr g) (outside n least most t.token None g refl))
number_told least most (Number (Some m)) n es k t ts l g =
    told_if (nat_le least m && nat_le m most) (got m ts) (refuse OfNumber (t ∷ ts)) (push n (INT least most) es k) (λ x. stack es (k x)) (t ∷ ts)
    (λ i. one n (INT least most) es k t m ts (inl g) (inside n least most t.token m l g i))
    (λ i. halted (push n (INT least most) es k) (t ∷ ts) OfNumber (broken n (INT least most) es k t m ts OfNumber refl (inl g) (outside n least most t.token (Some m) g i)))
number_told least most c n es k t ts l g = told_bad {ks = Number None ∷ []} n (INT least most) es k (t ∷ ts) refl refl (record { is = ap (one_of (Number None ∷ [])) g })

number_read : (least most : ℕ) (n : ℕ) (es : List Place) (k : ℕ → Act es Deployment) (s : List Lexeme) → Low n → Explained (number least most s) (push n (INT least most) es k) (λ x. stack es (k x)) s
number_read least most n es k [] l = nothing_read (Number None ∷ []) n (INT least most) es k refl refl
number_read least most n es k (t ∷ ts) l = number_told least most t.token n es k t ts l refl

pub numbered : (least most : ℕ) (n : ℕ) (es : List Place) (k : ℕ → Act es Deployment) → Low n → Sound (number least most) (stack (place n (INT least most) ∷ es) k) (λ x. stack es (k x))
numbered least most n es k l = record { told = λ s. number_read least most n es k s l }

-- ---- choices

-- fewer tokens are left
abbrev pub Eaten : {A : Type 0} → Read A → List Lexeme → Type 0
Eaten (got x r) s = length r < length s
Eaten (bad line what) s = Unit {0}

pub shorter : (w : List ℕ) (s : List Lexeme) → next_is w s ≡ true → length (after_first s) < length s
shorter w [] i = absurd (cc)
shorter w (t ∷ ts) i = omega arith

pub fewer : {A : Type 0} (q : Read A) (f : Stack) (g : A → Stack) (s : List Lexeme) → length (after_first s) < length s → Explained q f g (after_first s) → Eaten q s
fewer (got x r) f g s l h = let e = kept f (g x) (after_first s) r h in omega (arith, e, l)
fewer (bad line what) f g s l h = tt

-- a phrase for a symbol, where the next token stands in this line and is of none of these kinds; it takes tokens, if so asked
pub record Else {A : Type 0} (eats : Bool) (line : ℕ) (ks : List Token) (p : List Lexeme → Read A) (f : Stack) (g : A → Stack) : Type 0 where
  pub told : (s : List Lexeme) → line_of s ≡ line → NoneOf ks s → Explained (p s) f g s
  pub eaten : (s : List Lexeme) → eats ≡ true → Eaten (p s) s

-- what a sign decides, or something else
pub chosen : {A : Type 0} {p q : List Lexeme → Read A} {h : A → Stack} (line : ℕ) (ks : List Token) (w : List ℕ) (n : ℕ) (a : Symbol) (r : Rule (Of a)) (es : List Place) (k : Of a → Act es Deployment) → select (rules n a) (Sign w) ≡ r ∷ [] → (nullable a && starts es (Sign w)) ≡ false
    → ((s : List Lexeme) → next_is w s ≡ true → line_of s ≡ line → Explained (p s) (opened a r es k) h s) → Else false line (Sign w ∷ ks) q (push n a es k) h → Else false line ks (λ s. if next_is w s then p s else q s) (push n a es k) h
chosen {p = p} {q = q} {h = h} line ks w n a r es k e f g c = record {
  told = λ s l z. told_if (next_is w s) (p s) (q s) (push n a es k) h s (λ i. told_by (p s) (push n a es k) (opened a r es k) h s (by_sign w n a r es k s i e f) (g s i l)) (λ i. c.told s l (also_not w ks s i z));
  eaten = λ s t. absurd (cc);
}

-- over the sign that decides
pub sign_run : (w : List ℕ) (n : ℕ) (a : Symbol) (bs : List Place) (m : ℕ → Act bs (Of a)) (es : List Place) (k : Of a → Act es Deployment) (s : List Lexeme) → Low n → select (rules n a) (Sign w) ≡ by (place n (word w) ∷ bs) m ∷ [] → (nullable a && starts es (Sign w)) ≡ false
    → next_is w s ≡ true → Run (push n a es k) s (opened a (by bs (m (line_of s))) es k) (after_first s)
sign_run w n a bs m es k s l e f i =
    let r : Rule (Of a) = by (place n (word w) ∷ bs) m in
    went (push n a es k) (opened a r es k) s (opened a (by bs (m (line_of s))) es k) (after_first s) (by_sign w n a r es k s i e f) (first_took w n (bs ++ es) (means Deployment r es k) s l i)

eaten_if : {A : Type 0} (b : Bool) (q r : Read A) (s : List Lexeme) → (b ≡ true → Eaten q s) → (b ≡ false → Eaten r s) → Eaten (if b then q else r) s
eaten_if true q r s d e = d refl
eaten_if false q r s d e = e refl

-- a sign and what follows it, or something else
pub choice : {A : Type 0} {p q : List Lexeme → Read A} {h : A → Stack} {eats : Bool} (line : ℕ) (ks : List Token) (w : List ℕ) (n : ℕ) (a : Symbol) (bs : List Place) (m : ℕ → Act bs (Of a)) (es : List Place) (k : Of a → Act es Deployment) → Low n → select (rules n a) (Sign w) ≡ by (place n (word w) ∷ bs) m ∷ [] → (nullable a && starts es (Sign w)) ≡ false
    → Sound p (opened a (by bs (m line)) es k) h → Else eats line (Sign w ∷ ks) q (push n a es k) h → Else eats line ks (λ s. if next_is w s then p (after_first s) else q s) (push n a es k) h
choice {p = p} {q = q} {h = h} line ks w n a bs m es k l e f d c =
    record {
      told = λ s j z. told_if (next_is w s) (p (after_first s)) (q s) (push n a es k) h s
          (λ i. told_on (p (after_first s)) (push n a es k) (opened a (by bs (m (line_of s))) es k) h s (after_first s) (sign_run w n a bs m es k s l e f i) ((subst (λ x. Sound p (opened a (by bs (m x)) es k) h) (sym j) d).told (after_first s)))
          (λ i. c.told s j (also_not w ks s i z));
      eaten = λ s t. eaten_if (next_is w s) (p (after_first s)) (q s) s (λ i. fewer (p (after_first s)) (opened a (by bs (m line)) es k) h s (shorter w s i) (d.told (after_first s))) (λ i. c.eaten s t);
    }

pub whole : {A : Type 0} {p : List Lexeme → Read A} {f : Stack} {g : A → Stack} (eats : Bool) → ((line : ℕ) → Else eats line [] p f g) → Sound p f g
whole eats h = record { told = λ s. (h (line_of s)).told s refl (nothing_of s) }

pub else_refused : {A : Type 0} {ks : List Token} {g : A → Stack} {eats : Bool} (line n : ℕ) (a : Symbol) (es : List Place) (k : Of a → Act es Deployment) → nullable a ≡ false → among (firsts a) ks ≡ true → Else {A = A} eats line ks (refuse Syntax) (push n a es k) g
else_refused {ks = ks} line n a es k z f = record { told = λ s l h. told_bad {ks = ks} n a es k s z f h; eaten = λ s t. tt }

pub else_given : {A : Type 0} {ks : List Token} {g : A → Stack} (x : A) (line n : ℕ) (a : Symbol) (z : Of a) (es : List Place) (k : Of a → Act es Deployment) → choose leaves_out (rules n a) ≡ by [] z ∷ [] → among (firsts a) ks ≡ true
    → stack es (k z) ≡ g x → Else false line ks (give x) (push n a es k) g
else_given {ks = ks} {g = g} x line n a z es k e f c = record {
  told = λ s l h. subst (λ j. Run (push n a es k) s j s) c (went (push n a es k) (stack es (k z)) s (stack es (k z)) s (skips {ks = ks} n a z es k s e f h) (here (stack es (k z)) s));
  eaten = λ s t. absurd (cc);
}

pub some_same : {A : Type 0} (x y : A) → Some x ≡ Some y → x ≡ y
some_same x y e = cc

-- ---- repetitions

-- one turn of a repetition
pub record Turn {A : Type 0} (f : A → Stack) (x : A) (s : List Lexeme) (q : Read A) : Type 0 where
  pub told : Explained q (f x) f s
  pub eaten : Eaten q s

-- what was read so far is the stack's; at the end it is the whole
pub record Turns {A : Type 0} (step : A → List Lexeme → Option (Read A)) (f g : A → Stack) : Type 0 where
  pub on : (x : A) (s : List Lexeme) (q : Read A) → step x s ≡ Some q → Turn f x s q
  pub ends : (x : A) (s : List Lexeme) → step x s ≡ None → Step (f x) (g x) s
  pub over : (x : A) → Step (f x) (g x) []

told_again : {A : Type 0} (q : Read A) (p : A → List Lexeme → Read A) (j : Stack) (f g : A → Stack) (s : List Lexeme) → Explained q j f s → Eaten q s → ((x : A) (r : List Lexeme) → length r < length s → Explained (p x r) (f x) g r) → Explained (after q p) j g s
told_again (got x r) p j f g s h e k = told_on (p x r) j (f x) g s r h (k x r e)
told_again (bad line what) p j f g s h e k = h

pub stays : (f g : Stack) (s : List Lexeme) → Step f g s → Run f s g s
stays f g s d = went f g s g s d (here g s)

looped_on : {A : Type 0} (step : A → List Lexeme → Option (Read A)) (f g : A → Stack) → Turns step f g → (n : ℕ) → ((x : A) (s : List Lexeme) → length s ≤ n → Explained (repeated n step x s) (f x) g s)
    → (x : A) (s : List Lexeme) → length s ≤ suc n → (o : Option (Read A)) → step x s ≡ o → Explained (go_on (repeated n step) o x s) (f x) g s
looped_on step f g h n again x s l None e = stays (f x) (g x) s (h.ends x s e)
looped_on step f g h n again x s l (Some q) e =
    let t = h.on x s q e in
    told_again q (repeated n step) (f x) f g s t.told t.eaten (λ y r m. again y r (omega (arith, l, m)))

looped : {A : Type 0} (step : A → List Lexeme → Option (Read A)) (f g : A → Stack) → Turns step f g → (n : ℕ) (x : A) (s : List Lexeme) → length s ≤ n → Explained (repeated n step x s) (f x) g s
looped step f g h zero x [] l = stays (f x) (g x) [] (h.over x)
looped step f g h zero x (t ∷ ts) l = absurd (omega (arith, l))
looped step f g h (suc n) x s l = looped_on step f g h n (looped step f g h n) x s l (step x s) refl

pub repeats : {A : Type 0} {step : A → List Lexeme → Option (Read A)} {f g : A → Stack} → Turns step f g → (x : A) → Sound (λ s. repeated (length s) step x s) (f x) g
repeats {step = step} {f = f} {g = g} h x = record { told = λ s. looped step f g h (length s) x s (omega arith) }

-- ---- steps after a sign

is_on : {B : Type 0} (b : Bool) (x z : B) → (if b then Some x else None) ≡ Some z → (b ≡ true) × (x ≡ z)
is_on true x z e = (refl, some_same x z e)
is_on false x z e = absurd (cc)

pub is_off : {B : Type 0} (b : Bool) (x : B) → (if b then Some x else None) ≡ None → b ≡ false
is_off true x e = absurd (cc)
is_off false x e = refl

-- ---- lists

append_nil : {A : Type 0} (xs : List A) → xs ++ [] ≡ xs
append_nil [] = refl
append_nil (x ∷ xs) = ap (λ ys. x ∷ ys) (append_nil xs)

-- from a stack over a sign, and on by a phrase
pub record Leads {A : Type 0} (f : Stack) (p : List Lexeme → Read A) (g : A → Stack) (s : List Lexeme) : Type 0 where
  pub mid : Stack
  pub less : length (after_first s) < length s
  pub run : Run f s mid (after_first s)
  pub sound : Sound p mid g

-- a sign and one more of a list; the lists of a symbol are its items and what follows them
pub guarded : {A : Type 0} (w : List ℕ) (p : List Lexeme → List Lexeme → Read A) (f g : List A → Stack)
    → ((xs : List A) (s : List Lexeme) → next_is w s ≡ true → Leads (f xs) (p s) (λ y. f (xs ++ y ∷ [])) s) → ((xs : List A) (s : List Lexeme) → next_is w s ≡ false → Step (f xs) (g xs) s) → ((xs : List A) → Step (f xs) (g xs) [])
    → Turns (λ xs s. if next_is w s then Some (after (p s (after_first s)) (λ y. give (xs ++ y ∷ []))) else None) f g
guarded w p f g h e o = record {
  on = λ xs s q d. let i = is_on (next_is w s) (after (p s (after_first s)) (λ y. give (xs ++ y ∷ []))) q d in
      let l = h xs s i.0 in
      let t : Explained (after (p s (after_first s)) (λ y. give (xs ++ y ∷ []))) l.mid f (after_first s) = told_made (p s (after_first s)) (λ y. xs ++ y ∷ []) l.mid f (after_first s) (l.sound.told (after_first s)) in
      let u : Explained q l.mid f (after_first s) = subst (λ r. Explained r l.mid f (after_first s)) i.1 t in
      record { told = told_on q (f xs) l.mid f s (after_first s) l.run u; eaten = fewer q l.mid f s l.less u };
  ends = λ xs s d. e xs s (is_off (next_is w s) (after (p s (after_first s)) (λ y. give (xs ++ y ∷ []))) d);
  over = o;
}

-- what is made of a list that goes on with what stands for a symbol
abbrev pub onwards : {A B : Type 0} → (List A → B) → List A → List A → B
onwards k xs l = k (xs ++ l)

pub next_one : {A B : Type 0} (k : List A → B) (xs : List A) (y : A) → (λ l. onwards k xs (y ∷ l)) ≡ onwards k (xs ++ y ∷ [])
next_one k xs y = λ i l. k (sym (append_assoc xs (y ∷ []) l) i)

pub none_more : {A B : Type 0} (k : List A → B) (xs : List A) → onwards k xs [] ≡ k xs
none_more k xs = ap k (append_nil xs)

-- over a sign that decides, and on
pub leads : {A : Type 0} {p : List Lexeme → Read A} {g : A → Stack} (w : List ℕ) (n : ℕ) (a : Symbol) (bs : List Place) (m : ℕ → Act bs (Of a)) (es : List Place) (k : Of a → Act es Deployment) (s : List Lexeme) → Low n → select (rules n a) (Sign w) ≡ by (place n (word w) ∷ bs) m ∷ [] → (nullable a && starts es (Sign w)) ≡ false
    → next_is w s ≡ true → Sound p (opened a (by bs (m (line_of s))) es k) g → Leads (push n a es k) p g s
leads w n a bs m es k s l e f i d = record { mid = opened a (by bs (m (line_of s))) es k; less = shorter w s i; run = sign_run w n a bs m es k s l e f i; sound = d }

-- a token within its limits stands for one thing
pub one_value : (n : ℕ) (a : Symbol) (t : Lexeme) (x z : Of a) → IsToken a t x → IsToken a t z → limit n a t.token ≡ None → x ≡ z
one_value n (word w) t x z i j l = i.1 ∙ sym j.1
one_value n NAME t x z i j l = let e : Name x ≡ Name z = sym i ∙ j in cc
one_value n (INT least most) t x z (inl i) (inl j) l = let e : Number (Some x) ≡ Number (Some z) = sym i ∙ j in cc
one_value n (INT least most) t x z (inl i) (inr j) l = absurd (let e : Number (Some x) ≡ Number None = sym i ∙ j in cc)
one_value n (INT least most) t x z (inr i) j l = absurd (let e : Some OfNumber ≡ None = sym (outside n least most t.token None i refl) ∙ l in cc)
one_value n TEXT t x z (inl i) (inl j) l = let e : Text (Some x) ≡ Text (Some z) = sym i ∙ j in cc
one_value n TEXT t x z (inl i) (inr j) l = absurd (let e : Text (Some x) ≡ Text None = sym i ∙ j in cc)
one_value n TEXT t x z (inr i) j l = absurd (long_breaks n (nat_le n 64) (sym (ap (limit n TEXT) i) ∙ l))
  where
    long_breaks : (n : ℕ) (b : Bool) → (if not b then Some TooDeep else Some TooLarge) ≡ None → ⊥
    long_breaks n true e = cc
    long_breaks n false e = cc
one_value n END t x z i j l = i.1 ∙ sym j.1
one_value n a t x z i j l = absurd i
