-- Expressions are read as the grammar has them.
use Rattle.beldi_syntax.{specs.Phrase.take, specs.Expressions.expr_at, specs.Grammar.post, specs.Grammar.member, proofs.Deep.begins_with, proofs.Deep.deep_first}
use Rattle.beldi_syntax.proofs.Names.{Act, Add, And, Binary, Bool, Compare, Conjunction, Deployment, Disjunction, Div, Eq, Ge, Gt, INT, Join, Le, Level, Lexeme, List, Lt, Marked, Mul, NAME, Name, Ne, None, Number, Of, OfNumber, OneOf, Operator, Option, Or, Place, Product, REL, Read, Rel, Relation, Rem, Rule, Sign, Some, Sub, Sum, Symbol, Syntax, TEXT, Term, Text, Token, TooDeep, What, [], after, after_first, and, and_tail, ap, argument, arith, at, atom, begins_expr, binary, boolean, bracketed, by, call, chain, codes, compare, conj, conjunction, element, element_of, expr, exprs, false, field, field_of, fields, give, go_on, got, if◌then◌else◌, inl, inr, int, is_a_name, is_a_number, is_a_text, is_past_numbers, is_sign, items_of, join_of, join_step, joined, json_of, le-leb, len, list, list_any, listed, literal, marked, means, members, members_of, more, more_exprs, more_members, name, name_term, name_token, neg, negate_term, negation, next_is, next_item, next_suffix, not_term, null, number, number_of, number_token, operator_at, option_map, or, or_tail, part, past_token, place, pos, post_tail, prefixed, prod, prod_tail, product, product_at, push_of, push_term, read_atom, read_member, read_post, read_sum, read_unary, refl, refuse, rel, rel_tail, relation_at, rules, subst, suc, sum, sum_at, sum_tail, sym, text, text_term, text_token, true, turns, unary, with, with_of, word, zero, ℕ, ◌&&◌, ◌++◌, ◌+◌, ◌-◌, ◌<◌, ◌>>=◌, ◌^◌, ◌||◌, ◌∙◌, ◌∷◌, ◌≡◌}
use Rattle.beldi_syntax.proofs.Lookahead.{of_more, is_wide, Gives, ByRule, one_of, firsts, nullable, starts, select, sole, first_of_two, second_of_two, avoids, listed_in, avoided, avoids_rest}
use Rattle.beldi_syntax.proofs.Sound.{Stack, stack, Meets, Step, Run, went, Broken, Explained, Sound, push, opened, by_rule, told_on, seq, given, told_made, made, told_by, ruled, told_if, Low, NoneOf, nothing_of, also_not, skips, skips_end, by_next, by_sign, sign_skips, not_sign, first_took, halted, told_bad, taken, named, texted, numbered, shorter, fewer, Else, chosen, sign_run, choice, whole, some_same, Turn, Turns, stays, repeats, is_off, Leads, leads, guarded, onwards, next_one, none_more}

-- a phrase is this symbol, where none of these signs follows
abbrev pub Reads : (a : Symbol) → (List Lexeme → Read (Of a)) → ℕ → List (List ℕ) → Type 0
Reads a p n ops = (es : List Place) (k : Of a → Act es Deployment) → avoids ops es ≡ true → Sound p (push n a es k) (λ t. stack es (k t))

abbrev post_ops : List (List ℕ)
post_ops = codes "." ∷ codes "[" ∷ []

abbrev product_ops : List (List ℕ)
product_ops = codes "*" ∷ codes "/" ∷ codes "%" ∷ post_ops

abbrev sum_ops : List (List ℕ)
sum_ops = codes "+" ∷ codes "-" ∷ codes "++" ∷ product_ops

abbrev relation_ops : List (List ℕ)
relation_ops = codes "==" ∷ codes "!=" ∷ codes "<" ∷ codes "<=" ∷ codes ">" ∷ codes ">=" ∷ sum_ops

abbrev and_ops : List (List ℕ)
and_ops = codes "and" ∷ relation_ops

abbrev pub expr_ops : List (List ℕ)
expr_ops = codes "or" ∷ and_ops

-- ---- a sign, any number of times, before a phrase

signed_told : (w : List ℕ) (wrap : Term → Term) (p : List Lexeme → Read Term) (es : List Place) (f : (Term → Act es Deployment) → Stack)
    → ((k : Term → Act es Deployment) (s : List Lexeme) → next_is w s ≡ true → Run (f k) s (f (λ t. k (wrap t))) (after_first s))
    → ((k : Term → Act es Deployment) (s : List Lexeme) → next_is w s ≡ false → Explained (p s) (f k) (λ t. stack es (k t)) s)
    → (k : Term → Act es Deployment) (s : List Lexeme) → Explained (prefixed w wrap p s) (f k) (λ t. stack es (k t)) s
signed_told w wrap p es f more last k [] = last k [] refl
signed_told w wrap p es f more last k (t ∷ ts) = told_if (is_sign w t.token) (after (prefixed w wrap p ts) (λ y. give (wrap y))) (p (t ∷ ts)) (f k) (λ t. stack es (k t)) (t ∷ ts)
    (λ i. told_on (after (prefixed w wrap p ts) (λ y. give (wrap y))) (f k) (f (λ t. k (wrap t))) (λ t. stack es (k t)) (t ∷ ts) ts (more k (t ∷ ts) i)
    (told_made (prefixed w wrap p ts) wrap (f (λ t. k (wrap t))) (λ t. stack es (k t)) ts (signed_told w wrap p es f more last (λ t. k (wrap t)) ts)))
    (λ i. last k (t ∷ ts) i)

-- ---- operators

pub record Ops (level : Level) (p : List Lexeme → Read Term) (f g : Term → Stack) : Type 0 where
  pub at : (t : Term) (s : List Lexeme) (o : Operator) → operator_at level s ≡ Some o → Leads (f t) p (λ u. f (joined o t u)) s
  pub ends : (t : Term) (s : List Lexeme) → operator_at level s ≡ None → Step (f t) (g t) s
  pub over : (t : Term) → Step (f t) (g t) []

-- the first of several signs, or one of the others
pick : {B C : Type 0} (w : List ℕ) (s : List Lexeme) (x o : B) (y : Option B) → (if next_is w s then Some x else y) ≡ Some o → (next_is w s ≡ true → x ≡ o → C) → (y ≡ Some o → C) → C
pick {C = C} w s x o y e f g = elim (next_is w s) as (λ b. next_is w s ≡ b → (if b then Some x else y) ≡ Some o → C) [
  | true ↦ λ i d. f i (some_same x o d)
  | false ↦ λ i d. g d
] refl e

-- none of several signs
unpick : {B C : Type 0} (w : List ℕ) (ks : List Token) (s : List Lexeme) (x : B) (y : Option B) → (if next_is w s then Some x else y) ≡ None → NoneOf ks s → (y ≡ None → NoneOf (Sign w ∷ ks) s → C) → C
unpick {C = C} w ks s x y e n f = elim (next_is w s) as (λ b. next_is w s ≡ b → (if b then Some x else y) ≡ None → C) [
  | true ↦ λ g d. absurd (cc)
  | false ↦ λ g d. f d (also_not w ks s g n)
] refl e

no_other : {B C : Type 0} (o : B) → None ≡ Some o → C
no_other o e = absurd (cc)

mapped : {B C : Type 0} (f : B → C) (x : Option B) (o : C) → option_map f x ≡ Some o → (y : B) × (x ≡ Some y) × (f y ≡ o)
mapped f None o e = absurd (cc)
mapped f (Some y) o e = (y, refl, some_same (f y) o e)

unmapped : {B C : Type 0} (f : B → C) (x : Option B) → option_map f x ≡ None → x ≡ None
unmapped f None e = refl
unmapped f (Some y) e = absurd (cc)

some_op : (o : Option Operator) (p : List Lexeme → Read Term) (t : Term) (s : List Lexeme) (q : Read Term) → join_of p o t s ≡ Some q → (v : Operator) × (o ≡ Some v) × (after (p (after_first s)) (λ u. give (joined v t u)) ≡ q)
some_op None p t s q e = absurd (cc)
some_op (Some o) p t s q e = (o, refl, some_same _ q e)

none_op : (o : Option Operator) (p : List Lexeme → Read Term) (t : Term) (s : List Lexeme) → join_of p o t s ≡ None → o ≡ None
none_op None p t s e = refl
none_op (Some o) p t s e = absurd (cc)

-- over an operator and its right side
joined_turn : (level : Level) (p : List Lexeme → Read Term) (f g h : Term → Stack) → Ops level p f g → ((t : Term) (s : List Lexeme) (q : Read Term) → join_step level p t s ≡ Some q → Turn f t s q)
joined_turn level p f g h ops t s q e =
    let v = some_op (operator_at level s) p t s q e in
    let l = ops.at t s v.0 v.1 in
    let u : Explained q l.mid f (after_first s) = subst (λ r. Explained r l.mid f (after_first s)) v.2 (told_made (p (after_first s)) (joined v.0 t) l.mid f (after_first s) (l.sound.told (after_first s))) in
    record { told = told_on q (f t) l.mid f s (after_first s) l.run u; eaten = fewer q l.mid f s l.less u }

joins : (level : Level) (p : List Lexeme → Read Term) (f g : Term → Stack) → Ops level p f g → Turns (join_step level p) f g
joins level p f g ops = record {
  on = joined_turn level p f g g ops;
  ends = λ t s e. ops.ends t s (none_op (operator_at level s) p t s e);
  over = ops.over;
}

ors : (n : ℕ) (p : List Lexeme → Read Term) (es : List Place) (k : Term → Act es Deployment) → Low n → Reads conj p n and_ops → avoids expr_ops es ≡ true → Ops Disjunction p (λ t. push n or_tail es (λ f. k (f t))) (λ t. stack es (k t))
ors n p es k l h a = record {
  at = λ t s o e. pick (codes "or") s Or o None e
      (λ i j. subst (λ v. Leads (push n or_tail es (λ f. k (f t))) p (λ u. push n or_tail es (λ f. k (f (joined v t u)))) s) j
      (leads (codes "or") n or_tail _ _ es (λ f. k (f t)) s l refl (avoided expr_ops es (codes "or") refl a) i (h (place n or_tail ∷ es) (λ u f. k (f (or t u))) (avoids_rest (codes "or" ∷ []) and_ops es a))))
      (no_other o);
  ends = λ t s e. unpick (codes "or") _ s Or None e (nothing_of s) (λ d z. skips n or_tail (λ t. t) es (λ f. k (f t)) s refl refl z);
  over = λ t. skips_end n or_tail (λ t. t) es (λ f. k (f t)) refl;
}

ands : (n : ℕ) (p : List Lexeme → Read Term) (es : List Place) (k : Term → Act es Deployment) → Low n → Reads neg p n relation_ops → avoids and_ops es ≡ true → Ops Conjunction p (λ t. push n and_tail es (λ f. k (f t))) (λ t. stack es (k t))
ands n p es k l h a = record {
  at = λ t s o e. pick (codes "and") s And o None e
      (λ i j. subst (λ v. Leads (push n and_tail es (λ f. k (f t))) p (λ u. push n and_tail es (λ f. k (f (joined v t u)))) s) j
      (leads (codes "and") n and_tail _ _ es (λ f. k (f t)) s l refl (avoided and_ops es (codes "and") refl a) i (h (place n and_tail ∷ es) (λ u f. k (f (and t u))) (avoids_rest (codes "and" ∷ []) relation_ops es a))))
      (no_other o);
  ends = λ t s e. unpick (codes "and") _ s And None e (nothing_of s) (λ d z. skips n and_tail (λ t. t) es (λ f. k (f t)) s refl refl z);
  over = λ t. skips_end n and_tail (λ t. t) es (λ f. k (f t)) refl;
}

-- a sum's or a product's operator, which is this one
abbrev SumLeads : (n : ℕ) (p : List Lexeme → Read Term) (es : List Place) → (Term → Act es Deployment) → Term → List Lexeme → Operator → Type 0
SumLeads n p es k t s o = Leads (push n sum_tail es (λ f. k (f t))) p (λ u. push n sum_tail es (λ f. k (f (joined o t u)))) s

sums : (n : ℕ) (p : List Lexeme → Read Term) (es : List Place) (k : Term → Act es Deployment) → Low n → Reads prod p n product_ops → avoids sum_ops es ≡ true → Ops Sum p (λ t. push n sum_tail es (λ f. k (f t))) (λ t. stack es (k t))
sums n p es k l h a =
    let b : avoids product_ops (place n sum_tail ∷ es) ≡ true = avoids_rest (codes "+" ∷ codes "-" ∷ codes "++" ∷ []) product_ops es a in
    record {
      at = λ t s o e. let m = mapped Binary (sum_at s) o e in
          subst (SumLeads n p es k t s) m.2
          (pick (codes "+") s Add m.0 _ m.1 (λ i j. subst (λ v. SumLeads n p es k t s (Binary v)) j (leads (codes "+") n sum_tail _ _ es (λ f. k (f t)) s l refl (avoided sum_ops es (codes "+") refl a) i (h (place n sum_tail ∷ es) (λ u f. k (f (binary Add t u))) b))) (λ d.
          pick (codes "-") s Sub m.0 _ d (λ i j. subst (λ v. SumLeads n p es k t s (Binary v)) j (leads (codes "-") n sum_tail _ _ es (λ f. k (f t)) s l refl (avoided sum_ops es (codes "-") refl a) i (h (place n sum_tail ∷ es) (λ u f. k (f (binary Sub t u))) b))) (λ d.
          pick (codes "++") s Join m.0 None d (λ i j. subst (λ v. SumLeads n p es k t s (Binary v)) j (leads (codes "++") n sum_tail _ _ es (λ f. k (f t)) s l refl (avoided sum_ops es (codes "++") refl a) i (h (place n sum_tail ∷ es) (λ u f. k (f (binary Join t u))) b))) (no_other m.0))));
      ends = λ t s e.
          unpick (codes "+") _ s Add _ (unmapped Binary (sum_at s) e) (nothing_of s) (λ d z. unpick (codes "-") _ s Sub _ d z (λ d z. unpick (codes "++") _ s Join None d z (λ d z. skips n sum_tail (λ t. t) es (λ f. k (f t)) s refl refl z)));
      over = λ t. skips_end n sum_tail (λ t. t) es (λ f. k (f t)) refl;
    }

abbrev ProductLeads : (n : ℕ) (p : List Lexeme → Read Term) (es : List Place) → (Term → Act es Deployment) → Term → List Lexeme → Operator → Type 0
ProductLeads n p es k t s o = Leads (push n prod_tail es (λ f. k (f t))) p (λ u. push n prod_tail es (λ f. k (f (joined o t u)))) s

products : (n : ℕ) (p : List Lexeme → Read Term) (es : List Place) (k : Term → Act es Deployment) → Low n → Reads unary p n post_ops → avoids product_ops es ≡ true → Ops Product p (λ t. push n prod_tail es (λ f. k (f t))) (λ t. stack es (k t))
products n p es k l h a =
    let b : avoids post_ops (place n prod_tail ∷ es) ≡ true = avoids_rest (codes "*" ∷ codes "/" ∷ codes "%" ∷ []) post_ops es a in
    record {
      at = λ t s o e. let m = mapped Binary (product_at s) o e in
          subst (ProductLeads n p es k t s) m.2
          (pick (codes "*") s Mul m.0 _ m.1 (λ i j. subst (λ v. ProductLeads n p es k t s (Binary v)) j (leads (codes "*") n prod_tail _ _ es (λ f. k (f t)) s l refl (avoided product_ops es (codes "*") refl a) i (h (place n prod_tail ∷ es) (λ u f. k (f (binary Mul t u))) b))) (λ d.
          pick (codes "/") s Div m.0 _ d (λ i j. subst (λ v. ProductLeads n p es k t s (Binary v)) j (leads (codes "/") n prod_tail _ _ es (λ f. k (f t)) s l refl (avoided product_ops es (codes "/") refl a) i (h (place n prod_tail ∷ es) (λ u f. k (f (binary Div t u))) b))) (λ d.
          pick (codes "%") s Rem m.0 None d (λ i j. subst (λ v. ProductLeads n p es k t s (Binary v)) j (leads (codes "%") n prod_tail _ _ es (λ f. k (f t)) s l refl (avoided product_ops es (codes "%") refl a) i (h (place n prod_tail ∷ es) (λ u f. k (f (binary Rem t u))) b))) (no_other m.0))));
      ends = λ t s e.
          unpick (codes "*") _ s Mul _ (unmapped Binary (product_at s) e) (nothing_of s) (λ d z. unpick (codes "/") _ s Div _ d z (λ d z. unpick (codes "%") _ s Rem None d z (λ d z. skips n prod_tail (λ t. t) es (λ f. k (f t)) s refl refl z)));
      over = λ t. skips_end n prod_tail (λ t. t) es (λ f. k (f t)) refl;
    }

disjunctions : (n : ℕ) (p : List Lexeme → Read Term) → Low (n + 1) → Reads conj p (n + 1) and_ops → Reads expr (chain Disjunction p) n expr_ops
disjunctions n p l h es k a = ruled n expr _ es k refl (seq (h (place (n + 1) or_tail ∷ es) (λ t f. k (f t)) (avoids_rest (codes "or" ∷ []) and_ops es a)) (λ t. repeats (joins Disjunction p _ _ (ors (n + 1) p es k l h a)) t))

conjunctions : (n : ℕ) (p : List Lexeme → Read Term) → Low n → Reads neg p n relation_ops → Reads conj (chain Conjunction p) n and_ops
conjunctions n p l h es k a = ruled n conj _ es k refl (seq (h (place n and_tail ∷ es) (λ t f. k (f t)) (avoids_rest (codes "and" ∷ []) relation_ops es a)) (λ t. repeats (joins Conjunction p _ _ (ands n p es k l h a)) t))

all_sums : (n : ℕ) (p : List Lexeme → Read Term) → Low n → Reads prod p n product_ops → Reads sum (chain Sum p) n sum_ops
all_sums n p l h es k a = ruled n sum _ es k refl (seq (h (place n sum_tail ∷ es) (λ t f. k (f t)) (avoids_rest (codes "+" ∷ codes "-" ∷ codes "++" ∷ []) product_ops es a)) (λ t. repeats (joins Sum p _ _ (sums n p es k l h a)) t))

all_products : (n : ℕ) (p : List Lexeme → Read Term) → Low n → Reads unary p n post_ops → Reads prod (chain Product p) n product_ops
all_products n p l h es k a = ruled n prod _ es k refl (seq (h (place n prod_tail ∷ es) (λ t f. k (f t)) (avoids_rest (codes "*" ∷ codes "/" ∷ codes "%" ∷ []) post_ops es a)) (λ t. repeats (joins Product p _ _ (products n p es k l h a)) t))

-- ---- a relation

pub record Relates (s : List Lexeme) (o : Rel) : Type 0 where
  pub w : List ℕ
  pub next : next_is w s ≡ true
  pub itself : (n : ℕ) → select (rules n REL) (Sign w) ≡ by (place n (word w) ∷ []) (λ line. o) ∷ []
  pub tail : (n : ℕ) → select (rules n rel_tail) (Sign w) ≡ by (place n REL ∷ place n sum ∷ []) (λ r u t. compare r t u) ∷ []
  pub listed : listed_in relation_ops w ≡ true

rel_pick : (w : List ℕ) (s : List Lexeme) (x o : Rel) (y : Option Rel) → ((n : ℕ) → select (rules n REL) (Sign w) ≡ by (place n (word w) ∷ []) (λ line. x) ∷ []) → ((n : ℕ) → select (rules n rel_tail) (Sign w) ≡ by (place n REL ∷ place n sum ∷ []) (λ r u t. compare r t u) ∷ []) → listed_in relation_ops w ≡ true
    → (if next_is w s then Some x else y) ≡ Some o → (y ≡ Some o → Relates s o) → Relates s o
rel_pick w s x o y i j c e f = pick w s x o y e (λ g d. subst (Relates s) d (record { w = w; next = g; itself = i; tail = j; listed = c })) f

pub relates : (s : List Lexeme) (o : Rel) → relation_at s ≡ Some o → Relates s o
relates s o e =
    rel_pick (codes "==") s Eq o _ (λ n. refl) (λ n. refl) refl e (λ d. rel_pick (codes "!=") s Ne o _ (λ n. refl) (λ n. refl) refl d (λ d.
    rel_pick (codes "<") s Lt o _ (λ n. refl) (λ n. refl) refl d (λ d. rel_pick (codes "<=") s Le o _ (λ n. refl) (λ n. refl) refl d (λ d.
    rel_pick (codes ">") s Gt o _ (λ n. refl) (λ n. refl) refl d (λ d. rel_pick (codes ">=") s Ge o None (λ n. refl) (λ n. refl) refl d (λ d. absurd (cc)))))))

abbrev for_relation : List Token
for_relation = Sign (codes ">=") ∷ Sign (codes ">") ∷ Sign (codes "<=") ∷ Sign (codes "<") ∷ Sign (codes "!=") ∷ Sign (codes "==") ∷ []

pub relates_not : (s : List Lexeme) → relation_at s ≡ None → NoneOf for_relation s
relates_not s e =
    unpick (codes "==") _ s Eq _ e (nothing_of s) (λ d n. unpick (codes "!=") _ s Ne _ d n (λ d n.
    unpick (codes "<") _ s Lt _ d n (λ d n. unpick (codes "<=") _ s Le _ d n (λ d n.
    unpick (codes ">") _ s Gt _ d n (λ d n. unpick (codes ">=") _ s Ge None d n (λ d n. n))))))

pub rel_run : (n : ℕ) (es : List Place) (k : Rel → Act es Deployment) (s : List Lexeme) (o : Rel) → Low n → Relates s o → Run (push n REL es k) s (stack es (k o)) (after_first s)
rel_run n es k s o l h = sign_run h.w n REL [] (λ line. o) es k s l (h.itself n) refl h.next

-- a relation and its right side
rel_leads : (n : ℕ) (p : List Lexeme → Read Term) (es : List Place) (k : Term → Act es Deployment) (t : Term) (s : List Lexeme) (o : Rel) → Low n → Sound p (push n sum es (λ u. k (compare o t u))) (λ u. stack es (k (compare o t u))) → avoids relation_ops es ≡ true → Relates s o
    → Leads (push n rel_tail es (λ f. k (f t))) p (λ u. stack es (k (compare o t u))) s
rel_leads n p es k t s o l d a h = record {
  mid = push n sum es (λ u. k (compare o t u));
  less = shorter h.w s h.next;
  run = went (push n rel_tail es (λ f. k (f t))) (stack (place n REL ∷ place n sum ∷ es) (λ r u. k (compare r t u))) s (push n sum es (λ u. k (compare o t u))) (after_first s)
      (by_sign h.w n rel_tail (by (place n REL ∷ place n sum ∷ []) (λ r u t. compare r t u)) es (λ f. k (f t)) s h.next (h.tail n) (avoided relation_ops es h.w h.listed a))
      (rel_run n (place n sum ∷ es) (λ r u. k (compare r t u)) s o l h);
  sound = d;
}

once : (n : ℕ) (p : List Lexeme → Read Term) (es : List Place) (k : Term → Act es Deployment) → Low n → Reads sum p n sum_ops → avoids relation_ops es ≡ true → (t : Term) (s : List Lexeme) (o : Option (Read Term)) → join_step Relation p t s ≡ o
    → Explained (go_on (λ x r. got x r) o t s) (push n rel_tail es (λ f. k (f t))) (λ t. stack es (k t)) s
once n p es k l h a t s None g = stays (push n rel_tail es (λ f. k (f t))) (stack es (k t)) s (skips n rel_tail (λ t. t) es (λ f. k (f t)) s refl refl (relates_not s (unmapped Compare (relation_at s) (none_op (operator_at Relation s) p t s g))))
once n p es k l h a t s (Some q) g =
    let v = some_op (operator_at Relation s) p t s q g in
    let c = mapped Compare (relation_at s) v.0 v.1 in
    let b : avoids sum_ops es ≡ true = avoids_rest (codes "==" ∷ codes "!=" ∷ codes "<" ∷ codes "<=" ∷ codes ">" ∷ codes ">=" ∷ []) sum_ops es a in
    let d = rel_leads n p es k t s c.0 l (h es (λ u. k (compare c.0 t u)) b) a (relates s c.0 c.1) in
    let u : Explained (after (p (after_first s)) (λ u. give (joined (Compare c.0) t u))) d.mid (λ t. stack es (k t)) (after_first s) = told_made (p (after_first s)) (joined (Compare c.0) t) d.mid (λ t. stack es (k t)) (after_first s) (d.sound.told (after_first s)) in
    let w : Explained q d.mid (λ t. stack es (k t)) (after_first s) = subst (λ r. Explained r d.mid (λ t. stack es (k t)) (after_first s)) (ap (λ i. after (p (after_first s)) (λ u. give (joined i t u))) c.2 ∙ v.2) u in
    told_on (after q (λ x r. got x r)) (push n rel_tail es (λ f. k (f t))) d.mid (λ t. stack es (k t)) s (after_first s) d.run (told_made q (λ x. x) d.mid (λ t. stack es (k t)) (after_first s) w)

relations : (n : ℕ) (p : List Lexeme → Read Term) → Low n → Reads sum p n sum_ops → Reads rel (chain Relation p) n relation_ops
relations n p l h es k a =
    let b : avoids sum_ops es ≡ true = avoids_rest (codes "==" ∷ codes "!=" ∷ codes "<" ∷ codes "<=" ∷ codes ">" ∷ codes ">=" ∷ []) sum_ops es a in
    ruled n rel _ es k refl (seq (h (place n rel_tail ∷ es) (λ t f. k (f t)) b) (λ t. record { told = λ s. once n p es k l h a t s (join_step Relation p t s) refl }))

-- ---- what stands between operators

-- items with `,` between them, up to a sign
lists : {A : Type 0} (p : List Lexeme → Read A) (w : List ℕ) (all first : Stack) (f end out : List A → Stack)
    → ((s : List Lexeme) → next_is w s ≡ true → Run all s (out []) (after_first s)) → ((s : List Lexeme) → next_is w s ≡ false → Step all first s)
    → Sound p first (λ x. f (x ∷ [])) → Turns (next_item p) f end → ((xs : List A) → Sound (take w) (end xs) (λ u. out xs)) → Sound (listed w p) all out
lists p w all first f end out empty full d turns close =
    let inside : Sound (p >>= λ x. more p (x ∷ []) >>= λ xs. take w >>= λ u. give xs) first out = seq d (λ x. seq (repeats turns (x ∷ [])) (λ xs. seq (close xs) (λ u. given xs out))) in
    record {
      told = λ s. told_if (next_is w s) (got [] (after_first s)) ((p >>= λ x. more p (x ∷ []) >>= λ xs. take w >>= λ u. give xs) s) all out s
          (λ i. empty s i)
          (λ i. told_by ((p >>= λ x. more p (x ∷ []) >>= λ xs. take w >>= λ u. give xs) s) all first out s (full s i) (inside.told s));
    }

-- what follows a comma
comma : {A : Type 0} {g : List A → Stack} (p : List Lexeme → Read A) (f : List A → Stack) → ((xs : List A) (s : List Lexeme) → next_is (codes ",") s ≡ true → Leads (f xs) p (λ y. f (xs ++ y ∷ [])) s)
    → ((xs : List A) (s : List Lexeme) → next_is (codes ",") s ≡ false → Step (f xs) (g xs) s) → ((xs : List A) → Step (f xs) (g xs) []) → Turns (next_item p) f g
comma {g = g} p f h e o = guarded (codes ",") (λ s. p) f g h e o

exprs_listed : (n : ℕ) (p : List Lexeme → Read Term) (es : List Place) (k : List Term → Act es Deployment) → Low n → Reads expr p n expr_ops → Sound (listed (codes "]") p) (stack (place n exprs ∷ place n (word (codes "]")) ∷ es) (λ ts line. k ts)) (λ ts. stack es (k ts))
exprs_listed n p es k l h =
    let zs : List Place = place n (word (codes "]")) ∷ es in
    let kk : List Term → Act zs Deployment = λ ts line. k ts in
    lists p (codes "]") (push n exprs zs kk) (stack (place n expr ∷ place n more_exprs ∷ zs) (λ t ts. kk (t ∷ ts))) (λ xs. push n more_exprs zs (onwards kk xs)) (λ xs. stack zs (kk xs)) (λ xs. stack es (k xs))
    (λ s i. went (push n exprs zs kk) (stack zs (kk [])) s (stack es (k [])) (after_first s) (sign_skips (codes "]") n exprs [] zs kk s refl i refl) (first_took (codes "]") n es (λ line. k []) s l i))
    (λ s i. by_rule n exprs _ zs kk s (inl refl) (λ v y m d. first_of_two n exprs _ (by [] []) zs kk v y refl (not_sign (codes "]") n es (λ line. k []) s i v y m) d))
    (h (place n more_exprs ∷ zs) (λ t ts. kk (t ∷ ts)) refl)
    (comma p (λ xs. push n more_exprs zs (onwards kk xs))
    (λ xs s i. leads (codes ",") n more_exprs _ _ zs (onwards kk xs) s l refl refl i
    (subst (λ g. Sound p (push n expr (place n more_exprs ∷ zs) (λ t ts. onwards kk xs (t ∷ ts))) g) (λ i y. push n more_exprs zs (next_one kk xs y i)) (h (place n more_exprs ∷ zs) (λ t ts. onwards kk xs (t ∷ ts)) refl)))
    (λ xs s i. subst (λ c. Step (push n more_exprs zs (onwards kk xs)) (stack zs c) s) (none_more kk xs) (skips n more_exprs [] zs (onwards kk xs) s refl refl (also_not (codes ",") [] s i (nothing_of s))))
    (λ xs. subst (λ c. Step (push n more_exprs zs (onwards kk xs)) (stack zs c) []) (none_more kk xs) (skips_end n more_exprs [] zs (onwards kk xs) refl)))
    (λ xs. taken (codes "]") n es (k xs) l)

-- this sign and an expression
pub parts : (n : ℕ) (p : List Lexeme → Read Term) (w : List ℕ) (es : List Place) (k : Term → Act es Deployment) → Low n → Reads expr p n expr_ops → avoids expr_ops es ≡ true → Sound (part p w) (stack (place n (word w) ∷ place n expr ∷ es) (λ line t. k t)) (λ t. stack es (k t))
parts n p w es k l h a = seq (taken w n (place n expr ∷ es) (λ t. k t) l) (λ u. h es k a)

pub arguments : (n : ℕ) (p : List Lexeme → Read Term) (es : List Place) (k : Term → Act es Deployment) → Low n → Reads expr p n expr_ops → Sound (argument p) (stack (place n (word (codes "(")) ∷ place n expr ∷ place n (word (codes ")")) ∷ es) (λ line t end. k t)) (λ t. stack es (k t))
arguments n p es k l h = seq (taken (codes "(") n _ (λ t end. k t) l) (λ u. seq (h _ (λ t end. k t) refl) (λ t. seq (taken (codes ")") n es (k t) l) (λ v. given t (λ x. stack es (k x)))))

member_is_read : (n : ℕ) (p : List Lexeme → Read Term) → Low n → Reads expr p n expr_ops → Reads member (read_member p) n expr_ops
member_is_read n p l h es k a = ruled n member _ es k refl (seq (texted n _ (λ key line t. k (key, t)) l) (λ key. seq (taken (codes ":") n _ (λ t. k (key, t)) l) (λ u. seq (h es (λ t. k (key, t)) a) (λ t. given (key, t) (λ m. stack es (k m))))))

members_listed : (n : ℕ) (p : List Lexeme → Read (List ℕ × Term)) (es : List Place) (k : List (List ℕ × Term) → Act es Deployment) → Low n → Reads member p n expr_ops → Sound (listed (codes "}") p) (stack (place n members ∷ place n (word (codes "}")) ∷ es) (λ ms line. k ms)) (λ ms. stack es (k ms))
members_listed n p es k l h =
    let zs : List Place = place n (word (codes "}")) ∷ es in
    let kk : List (List ℕ × Term) → Act zs Deployment = λ ms line. k ms in
    lists p (codes "}") (push n members zs kk) (stack (place n member ∷ place n more_members ∷ zs) (λ t ts. kk (t ∷ ts))) (λ xs. push n more_members zs (onwards kk xs)) (λ xs. stack zs (kk xs)) (λ xs. stack es (k xs))
    (λ s i. went (push n members zs kk) (stack zs (kk [])) s (stack es (k [])) (after_first s) (sign_skips (codes "}") n members [] zs kk s refl i refl) (first_took (codes "}") n es (λ line. k []) s l i))
    (λ s i. by_rule n members _ zs kk s (inl refl) (λ v y m d. first_of_two n members _ (by [] []) zs kk v y refl (not_sign (codes "}") n es (λ line. k []) s i v y m) d))
    (h (place n more_members ∷ zs) (λ t ts. kk (t ∷ ts)) refl)
    (comma p (λ xs. push n more_members zs (onwards kk xs))
    (λ xs s i. leads (codes ",") n more_members _ _ zs (onwards kk xs) s l refl refl i
    (subst (λ g. Sound p (push n member (place n more_members ∷ zs) (λ t ts. onwards kk xs (t ∷ ts))) g) (λ i y. push n more_members zs (next_one kk xs y i)) (h (place n more_members ∷ zs) (λ t ts. onwards kk xs (t ∷ ts)) refl)))
    (λ xs s i. subst (λ c. Step (push n more_members zs (onwards kk xs)) (stack zs c) s) (none_more kk xs) (skips n more_members [] zs (onwards kk xs) s refl refl (also_not (codes ",") [] s i (nothing_of s))))
    (λ xs. subst (λ c. Step (push n more_members zs (onwards kk xs)) (stack zs c) []) (none_more kk xs) (skips_end n more_members [] zs (onwards kk xs) refl)))
    (λ xs. taken (codes "}") n es (k xs) l)

pushes_read : (n : ℕ) (p : List Lexeme → Read Term) (es : List Place) (k : Term → Act es Deployment) → Low n → Reads expr p n expr_ops
    → Sound (push_of p) (stack (at n (word (codes "(") ∷ expr ∷ word (codes ",") ∷ expr ∷ word (codes ")") ∷ []) ++ es) (λ a t b u c. k (push_term t u))) (λ t. stack es (k t))
pushes_read n p es k l h = seq (parts n p (codes "(") _ (λ t b u c. k (push_term t u)) l h refl) (λ t. seq (parts n p (codes ",") _ (λ u c. k (push_term t u)) l h refl) (λ u. seq (taken (codes ")") n es (k (push_term t u)) l) (λ v. given (push_term t u) (λ x. stack es (k x)))))

withs_read : (n : ℕ) (p : List Lexeme → Read Term) (es : List Place) (k : Term → Act es Deployment) → Low n → Reads expr p n expr_ops
    → Sound (with_of p) (stack (at n (word (codes "(") ∷ expr ∷ word (codes ",") ∷ expr ∷ word (codes ",") ∷ expr ∷ word (codes ")") ∷ []) ++ es) (λ a t b u c v d. k (with t u v))) (λ t. stack es (k t))
withs_read n p es k l h = seq (parts n p (codes "(") _ (λ t b u c v d. k (with t u v)) l h refl) (λ t. seq (parts n p (codes ",") _ (λ u c v d. k (with t u v)) l h refl) (λ u. seq (parts n p (codes ",") _ (λ v d. k (with t u v)) l h refl) (λ v. seq (taken (codes ")") n es (k (with t u v)) l) (λ x. given (with t u v) (λ y. stack es (k y))))))

-- ---- a name, a text or a number

abbrev for_constant : List Token
for_constant = Sign (codes "null") ∷ Sign (codes "false") ∷ Sign (codes "true") ∷ []

abbrev for_bracket : List Token
for_bracket = Sign (codes "{") ∷ Sign (codes "[") ∷ Sign (codes "(") ∷ for_constant

abbrev for_words : List Token
for_words = Sign (codes "with") ∷ Sign (codes "push") ∷ Sign (codes "text") ∷ Sign (codes "len") ∷ for_bracket

-- whether the next token is of a kind
abbrev pub first_is : (Token → Bool) → List Lexeme → Bool
first_is test [] = false
first_is test (l ∷ ls) = test l.token

-- what a kind of tokens decides
kind_decides : (test : Token → Bool) (n : ℕ) (a : Symbol) (r : Rule (Of a)) (es : List Place) (k : Of a → Act es Deployment) → ((t : Token) → test t ≡ true → select (rules n a) t ≡ r ∷ []) → nullable a ≡ false
    → (s : List Lexeme) → first_is test s ≡ true → (v : List Marked) (y : Deployment) → Meets s v → Gives (place n a ∷ es) k v y → ByRule a r es k v y
kind_decides test n a r es k e z [] h v y m d = absurd (cc)
kind_decides test n a r es k e z (l ∷ ls) h [] y m d = absurd m
kind_decides test n a r es k e z (l ∷ ls) h (u ∷ v) y m d = by_next l.token n a r es k u v y (e l.token h) (ap (λ b. b && starts es l.token) z) (ap (λ t. t.token) m) d

pub kind_step : (test : Token → Bool) (n : ℕ) (a : Symbol) (r : Rule (Of a)) (es : List Place) (k : Of a → Act es Deployment) → OneOf r (rules n a) → ((t : Token) → test t ≡ true → select (rules n a) t ≡ r ∷ []) → nullable a ≡ false → (s : List Lexeme) → first_is test s ≡ true → Step (push n a es k) (opened a r es k) s
kind_step test n a r es k o e z s h = by_rule n a r es k s o (kind_decides test n a r es k e z s h)

name_selects : (n : ℕ) (t : Token) → name_token t ≡ true → select (rules n atom) t ≡ by (place n NAME ∷ []) (λ x. name_term x) ∷ []
name_selects n (Name v) h = refl
name_selects n t h = absurd (cc)

text_selects : (n : ℕ) (t : Token) → text_token t ≡ true → select (rules n atom) t ≡ by (place n TEXT ∷ []) (λ x. text_term x) ∷ []
text_selects n (Text v) h = refl
text_selects n t h = absurd (cc)

number_selects : (n : ℕ) (t : Token) → number_token t ≡ true → select (rules n atom) t ≡ by (place n (INT 0 (2 ^ 63 - 1)) ∷ []) (λ m. int (pos m)) ∷ []
number_selects n (Number v) h = refl
number_selects n t h = absurd (cc)

name_first : (s : List Lexeme) → first_is name_token s ≡ is_a_name s
name_first [] = refl
name_first (l ∷ ls) = refl

text_first : (s : List Lexeme) → first_is text_token s ≡ is_a_text s
text_first [] = refl
text_first (l ∷ ls) = refl

number_first : (s : List Lexeme) → first_is number_token s ≡ is_a_number s
number_first [] = refl
number_first (l ∷ ls) = refl

none_of_four : (a b c d : Bool) → a ≡ false → b ≡ false → c ≡ false → d ≡ false → (a || (b || (c || d))) ≡ false
none_of_four true b c d h i j k = h
none_of_four false true c d h i j k = i
none_of_four false false true d h i j k = j
none_of_four false false false d h i j k = k

abbrev for_atom : List Token
for_atom = Number None ∷ Text None ∷ Name [] ∷ for_words

no_atom : (s : List Lexeme) → NoneOf for_words s → is_a_name s ≡ false → is_a_text s ≡ false → is_a_number s ≡ false → NoneOf for_atom s
no_atom [] h i j k = record { is = refl }
no_atom (l ∷ ls) h i j k = record { is = none_of_four (number_token l.token) (text_token l.token) (name_token l.token) (one_of for_words l.token) k j i h.is }

no_number : (least most : ℕ) (k : Token) (s ts : List Lexeme) → number_token k ≡ false → number_of least most k s ts ≡ refuse Syntax s
no_number least most (Number n) s ts h = absurd (cc)
no_number least most k s ts h = refl

number_refused : (least most : ℕ) (s : List Lexeme) → is_a_number s ≡ false → number least most s ≡ refuse Syntax s
number_refused least most [] h = refl
number_refused least most (t ∷ ts) h = no_number least most t.token (t ∷ ts) ts h

int_told : (n : ℕ) (es : List Place) (k : Term → Act es Deployment) (s : List Lexeme) → Low n → NoneOf for_words s → is_a_name s ≡ false → is_a_text s ≡ false → (b : Bool) → is_a_number s ≡ b → Explained (after (number 0 (2 ^ 63 - 1) s) (λ m. give (int (pos m)))) (push n atom es k) (λ t. stack es (k t)) s
int_told n es k s l h i j true c = told_by (after (number 0 (2 ^ 63 - 1) s) (λ m. give (int (pos m)))) (push n atom es k) (push n (INT 0 (2 ^ 63 - 1)) es (λ m. k (int (pos m)))) (λ t. stack es (k t)) s
    (kind_step number_token n atom (by (place n (INT 0 (2 ^ 63 - 1)) ∷ []) (λ m. int (pos m))) es k (inl refl) (number_selects n) refl s (number_first s ∙ c))
    (told_made (number 0 (2 ^ 63 - 1) s) (λ m. int (pos m)) (push n (INT 0 (2 ^ 63 - 1)) es (λ m. k (int (pos m)))) (λ t. stack es (k t)) s ((numbered 0 (2 ^ 63 - 1) n es (λ m. k (int (pos m))) l).told s))
int_told n es k s l h i j false c = subst (λ q. Explained (after q (λ m. give (int (pos m)))) (push n atom es k) (λ t. stack es (k t)) s) (sym (number_refused 0 (2 ^ 63 - 1) s c)) (told_bad {ks = for_atom} n atom es k s refl refl (no_atom s h i j c))

literals : (line n : ℕ) (es : List Place) (k : Term → Act es Deployment) → Low n → Else false line for_words literal (push n atom es k) (λ t. stack es (k t))
literals line n es k l = record {
  told = λ s j z. told_if (is_a_name s) _ _ (push n atom es k) (λ t. stack es (k t)) s
      (λ i. told_by _ (push n atom es k) (push n NAME es (λ x. k (name_term x))) (λ t. stack es (k t)) s (kind_step name_token n atom (by (place n NAME ∷ []) (λ x. name_term x)) es k (inr (inr (inr (inr (inr (inl refl)))))) (name_selects n) refl s (name_first s ∙ i))
      (told_made (name s) name_term (push n NAME es (λ x. k (name_term x))) (λ t. stack es (k t)) s ((named n es (λ x. k (name_term x)) l).told s)))
      (λ i. told_if (is_a_text s) _ _ (push n atom es k) (λ t. stack es (k t)) s
      (λ c. told_by _ (push n atom es k) (push n TEXT es (λ x. k (text_term x))) (λ t. stack es (k t)) s (kind_step text_token n atom (by (place n TEXT ∷ []) (λ x. text_term x)) es k (inr (inl refl)) (text_selects n) refl s (text_first s ∙ c))
      (told_made (text s) text_term (push n TEXT es (λ x. k (text_term x))) (λ t. stack es (k t)) s ((texted n es (λ x. k (text_term x)) l).told s)))
      (λ c. int_told n es k s l z i c (is_a_number s) refl));
  eaten = λ s t. absurd (cc);
}

calls : (line n : ℕ) (p : List Lexeme → Read Term) (es : List Place) (k : Term → Act es Deployment) → Low n → Reads expr p n expr_ops → Else false line for_bracket (call p) (push n atom es k) (λ t. stack es (k t))
calls line n p es k l h =
    choice line _ (codes "len") n atom _ _ es k l refl refl (made len (arguments n p es (λ t. k (len t)) l h))
    (choice line _ (codes "text") n atom _ _ es k l refl refl (made json_of (arguments n p es (λ t. k (json_of t)) l h))
    (choice line _ (codes "push") n atom _ _ es k l refl refl (pushes_read n p es k l h)
    (choice line _ (codes "with") n atom _ _ es k l refl refl (withs_read n p es k l h) (literals line n es k l))))

brackets : (line n : ℕ) (p : List Lexeme → Read Term) (es : List Place) (k : Term → Act es Deployment) → Low n → Reads expr p n expr_ops → Else false line for_constant (bracketed p) (push n atom es k) (λ t. stack es (k t))
brackets line n p es k l h =
    chosen line _ (codes "(") n atom _ es k refl refl (λ s i j. (arguments n p es k l h).told s)
    (choice line _ (codes "[") n atom _ _ es k l refl refl (made (λ ts. list (items_of ts)) (exprs_listed n p es (λ ts. k (list (items_of ts))) l h))
    (choice line _ (codes "{") n atom _ _ es k l refl refl (made (λ ms. fields (members_of ms)) (members_listed n (read_member p) es (λ ms. k (fields (members_of ms))) l (member_is_read n p l h)))
    (calls line n p es k l h)))

atoms : (n : ℕ) (p : List Lexeme → Read Term) (es : List Place) (k : Term → Act es Deployment) → Low n → Reads expr p n expr_ops → Sound (read_atom p) (push n atom es k) (λ t. stack es (k t))
atoms n p es k l h = whole false (λ line.
    choice line _ (codes "true") n atom _ _ es k l refl refl (given (boolean true) (λ t. stack es (k t)))
    (choice line _ (codes "false") n atom _ _ es k l refl refl (given (boolean false) (λ t. stack es (k t)))
    (choice line _ (codes "null") n atom _ _ es k l refl refl (given null (λ t. stack es (k t))) (brackets line n p es k l h))))

-- ---- from suffixes to expressions

take_is : (w : List ℕ) (s : List Lexeme) → next_is w s ≡ true → take w s ≡ got tt (after_first s)
take_is w s i = ap (λ b. if b then got tt (after_first s) else refuse Syntax s) i

second_of : (a b : Bool) → (a || (b || false)) ≡ true → a ≡ false → b ≡ true
second_of true b h e = absurd (cc)
second_of false true h e = refl
second_of false false h e = h

-- an expression and `]`
elements : (n : ℕ) (p : List Lexeme → Read Term) (es : List Place) (k : Term → Act es Deployment) (t : Term) → Low n → Reads expr p n expr_ops
    → Sound (p >>= λ i. take (codes "]") >>= λ u. give (element t i)) (stack (place n expr ∷ place n (word (codes "]")) ∷ es) (λ i line. k (element t i))) (λ x. stack es (k x))
elements n p es k t l h = seq (h _ (λ i line. k (element t i)) refl) (λ i. seq (taken (codes "]") n es (k (element t i)) l) (λ u. given (element t i) (λ x. stack es (k x))))

led_turn : (f : Term → Stack) (t : Term) (s : List Lexeme) (p : List Lexeme → Read Term) (q : Read Term) → Leads (f t) p f s → p (after_first s) ≡ q → Turn f t s q
led_turn f t s p q d e =
    let u : Explained q d.mid f (after_first s) = subst (λ r. Explained r d.mid f (after_first s)) e (d.sound.told (after_first s)) in
    record { told = told_on q (f t) d.mid f s (after_first s) d.run u; eaten = fewer q d.mid f s d.less u }

-- what may follow an atom
abbrev suffixed : (n : ℕ) (es : List Place) → (Term → Act es Deployment) → Term → Stack
suffixed n es k t = push n post_tail es (λ f. k (f t))

suffix_turn : (n : ℕ) (p : List Lexeme → Read Term) (es : List Place) (k : Term → Act es Deployment) → Low n → Reads expr p n expr_ops → avoids post_ops es ≡ true → (t : Term) (s : List Lexeme) (q : Read Term) (b c : Bool) → next_is (codes ".") s ≡ b → list_any (λ w. next_is w s) (codes "." ∷ codes "[" ∷ []) ≡ c
    → (if c then Some (if b then field_of t (after_first s) else element_of p t s) else None) ≡ Some q → Turn (suffixed n es k) t s q
suffix_turn n p es k l h a t s q b false g f e = absurd (cc)
suffix_turn n p es k l h a t s q true true g f e = led_turn (suffixed n es k) t s (field_of t) q
    (leads (codes ".") n post_tail _ _ es (λ f. k (f t)) s l refl (avoided post_ops es (codes ".") refl a) g (made (λ key. field t key) (named n (place n post_tail ∷ es) (λ key f. k (f (field t key))) l)))
    (some_same _ q e)
suffix_turn n p es k l h a t s q false true g f e =
    let i : next_is (codes "[") s ≡ true = second_of (next_is (codes ".") s) (next_is (codes "[") s) f g in
    led_turn (suffixed n es k) t s (p >>= λ i. take (codes "]") >>= λ u. give (element t i)) q
    (leads (codes "[") n post_tail _ _ es (λ f. k (f t)) s l refl (avoided post_ops es (codes "[") refl a) i (elements n p (place n post_tail ∷ es) (λ x f. k (f x)) t l h))
    (ap (λ r. after (after r (λ u. p)) (λ i. take (codes "]") >>= λ u. give (element t i))) (sym (take_is (codes "[") s i)) ∙ some_same _ q e)

no_suffix : (s : List Lexeme) → list_any (λ w. next_is w s) (codes "." ∷ codes "[" ∷ []) ≡ false → NoneOf (Sign (codes ".") ∷ Sign (codes "[") ∷ []) s
no_suffix [] h = record { is = refl }
no_suffix (l ∷ ls) h = record { is = h }

suffixes : (n : ℕ) (p : List Lexeme → Read Term) (es : List Place) (k : Term → Act es Deployment) → Low n → Reads expr p n expr_ops → avoids post_ops es ≡ true → Turns (next_suffix p) (suffixed n es k) (λ t. stack es (k t))
suffixes n p es k l h a = record {
  on = λ t s q e. suffix_turn n p es k l h a t s q (next_is (codes ".") s) (list_any (λ w. next_is w s) (codes "." ∷ codes "[" ∷ [])) refl refl e;
  ends = λ t s e. skips n post_tail (λ t. t) es (λ f. k (f t)) s refl refl (no_suffix s (is_off (list_any (λ w. next_is w s) (codes "." ∷ codes "[" ∷ [])) (if next_is (codes ".") s then field_of t (after_first s) else element_of p t s) e));
  over = λ t. skips_end n post_tail (λ t. t) es (λ f. k (f t)) refl;
}

posts : (n : ℕ) (p : List Lexeme → Read Term) → Low n → Reads expr p n expr_ops → Reads post (read_post p) n post_ops
posts n p l h es k a = ruled n post _ es k refl (seq (atoms n p (place n post_tail ∷ es) (λ t f. k (f t)) l h) (λ t. repeats (suffixes n p es k l h a) t))

unaries : (n : ℕ) (p : List Lexeme → Read Term) → Low n → Reads expr p n expr_ops → Reads unary (read_unary p) n post_ops
unaries n p l h es k a = record {
  told = λ s. signed_told (codes "-") negate_term (read_post p) es (λ m. push n unary es m)
      (λ m s i. sign_run (codes "-") n unary _ _ es m s l refl refl i)
      (λ m s i. told_by (read_post p s) (push n unary es m) (push n post es m) (λ t. stack es (m t)) s (by_rule n unary (by (place n post ∷ []) (λ t. t)) es m s (inr (inl refl)) (λ v y c d. second_of_two n unary _ _ es m v y refl (not_sign (codes "-") n (place n unary ∷ es) (λ line t. m (negate_term t)) s i v y c) d)) ((posts n p l h es m a).told s))
      k s;
}

pub sums_read : (n : ℕ) (p : List Lexeme → Read Term) → Low n → Reads expr p n expr_ops → Reads sum (read_sum p) n sum_ops
sums_read n p l h = all_sums n (product p) l (all_products n (read_unary p) l (unaries n p l h))

negations : (n : ℕ) (p : List Lexeme → Read Term) → Low n → Reads expr p n expr_ops → Reads neg (negation p) n relation_ops
negations n p l h es k a = record {
  told = λ s. signed_told (codes "not") not_term (chain Relation (read_sum p)) es (λ m. push n neg es m)
      (λ m s i. sign_run (codes "not") n neg _ _ es m s l refl refl i)
      (λ m s i. told_by (chain Relation (read_sum p) s) (push n neg es m) (push n rel es m) (λ t. stack es (m t)) s (by_rule n neg (by (place n rel ∷ []) (λ t. t)) es m s (inr (inl refl)) (λ v y c d. second_of_two n neg _ _ es m v y refl (not_sign (codes "not") n (place n neg ∷ es) (λ line t. m (not_term t)) s i v y c) d)) ((relations n (read_sum p) l (sums_read n p l h) es m a).told s))
      k s;
}

-- ---- levels

regroup : (a b c d : Bool) → (((a || b) || c) || d) ≡ false → (a || (b || (c || d))) ≡ false
regroup true b c d h = h
regroup false true c d h = h
regroup false false true d h = h
regroup false false false d h = h

abbrev for_expr : List Token
for_expr =
    Name [] ∷ Number None ∷ Text None ∷ Sign (codes "not") ∷ Sign (codes "-") ∷ Sign (codes "(") ∷ Sign (codes "[") ∷ Sign (codes "{")
    ∷ Sign (codes "true") ∷ Sign (codes "false") ∷ Sign (codes "null") ∷ Sign (codes "len") ∷ Sign (codes "text") ∷ Sign (codes "push") ∷ Sign (codes "with") ∷ []

no_beginning : (s : List Lexeme) → begins_expr s ≡ false → NoneOf for_expr s
no_beginning [] h = record { is = refl }
no_beginning (l ∷ ls) h = record { is = regroup (name_token l.token) (number_token l.token) (text_token l.token) _ h }

-- the next token opens one level too many
pub too_deep : (n : ℕ) (a b : Symbol) (bs : List Place) (m : Act (place (n + 1) b ∷ bs) (Of a)) (es : List Place) (k : Of a → Act es Deployment) (t : Lexeme) (ts : List Lexeme) (what : What) → rules n a ≡ by (place (n + 1) b ∷ bs) m ∷ [] → nullable b ≡ false → is_wide b ≡ true → 64 < n + 1
    → one_of (firsts a) t.token ≡ true → (if past_token t.token then Some OfNumber else Some TooDeep) ≡ Some what → Broken (push n a es k) (t ∷ ts) what
too_deep n a b bs m es k t ts what e z w h i c =
    let r : Rule (Of a) = by (place (n + 1) b ∷ bs) m in
    let sure = λ (o : Option What) (v : List Marked) (y : Deployment) (d : Gives (place n a ∷ es) k (marked o t ∷ v) y). deep_first (n + 1) b (bs ++ es) (means Deployment r es k) (marked o t) v y h z w (sole n a r es k (marked o t ∷ v) y e d) ∙ c in
    let g = begins_with n a t i es k in
    record { first = t; rest = ts; more = g.more; code = g.code; all = refl; goes = subst (λ o. Gives (place n a ∷ es) k (marked o t ∷ g.more) g.code) (sure g.mark g.more g.code g.yields) g.yields; sure = sure }

past_starts : (t : Token) → past_token t ≡ true → one_of (firsts expr) t ≡ true
past_starts (Number v) h = refl
past_starts t h = absurd (cc)

regroup_true : (a b c d : Bool) → (((a || b) || c) || d) ≡ true → (a || (b || (c || d))) ≡ true
regroup_true true b c d h = refl
regroup_true false true c d h = refl
regroup_true false false true d h = refl
regroup_true false false false d h = h

deep_expr : (n : ℕ) (es : List Place) (k : Term → Act es Deployment) (s : List Lexeme) → 64 < n + 1 → (b c : Bool) → is_past_numbers s ≡ b → begins_expr s ≡ c → Explained {A = Term} (if b then refuse OfNumber s else if c then refuse TooDeep s else refuse Syntax s) (push n expr es k) (λ t. stack es (k t)) s
deep_expr n es k [] h true c e f = absurd (cc)
deep_expr n es k (t ∷ ts) h true c e f = halted (push n expr es k) (t ∷ ts) OfNumber (too_deep n expr conj _ _ es k t ts OfNumber refl refl refl h (past_starts t.token e) (ap (λ x. if x then Some OfNumber else Some TooDeep) e))
deep_expr n es k [] h false true e f = absurd (cc)
deep_expr n es k (t ∷ ts) h false true e f = halted (push n expr es k) (t ∷ ts) TooDeep (too_deep n expr conj _ _ es k t ts TooDeep refl refl refl h
    (of_more for_expr (firsts expr) t.token refl (regroup_true (name_token t.token) (number_token t.token) (text_token t.token) _ f)) (ap (λ x. if x then Some OfNumber else Some TooDeep) e))
deep_expr n es k s h false false e f = told_bad {ks = for_expr} n expr es k s refl refl (no_beginning s f)

pub low_at : (n d : ℕ) → n + d ≡ 64 → Low n
low_at n d e = le-leb n 64 (omega (arith, e))

pub exprs_at : (d n : ℕ) → n + d ≡ 64 → Reads expr (expr_at d) n expr_ops
unfolding expr_at
exprs_at zero n e es k a = record { told = λ s. deep_expr n es k s (omega (arith, e)) (is_past_numbers s) (begins_expr s) refl refl }
exprs_at (suc d) n e es k a =
    let f : (n + 1) + d ≡ 64 = omega (arith, e) in
    let l = low_at (n + 1) d f in
    disjunctions n (conjunction (expr_at d)) l (conjunctions (n + 1) (negation (expr_at d)) l (negations (n + 1) (expr_at d) l (exprs_at d (n + 1) f))) es k a
