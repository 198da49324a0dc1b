-- Every list of symbols is some tokens.
use Rattle.beldi_syntax.{specs.Grammar.post, specs.Grammar.member, proofs.Lookahead.Gives, proofs.Lookahead.choose, proofs.Lookahead.leaves_out, proofs.Lookahead.chosen_rule, proofs.Lookahead.opens_with}
use Rattle.beldi_syntax.proofs.Names.{Act, Deployment, END, End, INT, IsToken, List, Marked, NAME, Name, None, Number, Of, OneOf, Place, REL, Rule, Sign, Symbol, TEXT, Text, Token, [], and_tail, atom, block, by, cell, codes, conj, deployment, expr, function, inl, inr, limit, marked, means, more_functions, more_stmts, more_tables, neg, nothing, or_tail, phrase, place, post_tail, prod, prod_tail, refl, rel, rel_tail, room, rules, shape, stmt, sum, sum_tail, the_end, token, unary, word, ℕ, ◌++◌, ◌+◌, ◌∷◌, ◌≡◌}

pub record Filled (cs : List Place) (k : Act cs Deployment) : Type 0 where
  pub us : List Marked
  pub code : Deployment
  pub yields : Gives cs k us code

-- a symbol, whatever follows
abbrev Fills : Symbol → Type 0
Fills a = (n : ℕ) (es : List Place) (k : Of a → Act es Deployment) → ((x : Of a) → Filled es (k x)) → Filled (place n a ∷ es) k

fill_token : (n : ℕ) (a : Symbol) (t : Token) (x : Of a) → IsToken a (record { token = t; line = 0 }) x → (es : List Place) (k : Of a → Act es Deployment) → ((x : Of a) → Filled es (k x)) → Filled (place n a ∷ es) k
fill_token n a t x i es k h = record {
  us = marked (limit n a t) (record { token = t; line = 0 }) ∷ (h x).us;
  code = (h x).code;
  yields = token n a es k (marked (limit n a t) (record { token = t; line = 0 })) x (h x).us (h x).code i refl (h x).yields;
}

fill : (n : ℕ) (a : Symbol) (r : Rule (Of a)) → OneOf r (rules n a) → (es : List Place) (k : Of a → Act es Deployment) → Filled (shape r ++ es) (means Deployment r es k) → Filled (place n a ∷ es) k
fill n a r o es k h = record { us = h.us; code = h.code; yields = phrase n a r es k h.us h.code o h.yields }

the_word : (w : List ℕ) → Fills (word w)
the_word w n es k h = fill_token n (word w) (Sign w) 0 (refl, refl) es k h

an_int : (least most : ℕ) → Fills (INT least most)
an_int least most n es k h = fill_token n (INT least most) (Number None) 0 (inr refl) es k h

a_name : Fills NAME
a_name n es k h = fill_token n NAME (Name []) [] refl es k h

a_text : Fills TEXT
a_text n es k h = fill_token n TEXT (Text None) [] (inr refl) es k h

left_out : (n : ℕ) (a : Symbol) (x : Of a) → choose leaves_out (rules n a) ≡ by [] x ∷ [] → (es : List Place) (k : Of a → Act es Deployment) → Filled es (k x) → Filled (place n a ∷ es) k
left_out n a x e es k h = fill n a (by [] x) (chosen_rule leaves_out (rules n a) (by [] x) e) es k h

an_atom : Fills atom
an_atom n es k h = fill n atom _ (inl refl) es k (an_int 0 _ n es _ (λ x. h _))

a_post : Fills post
a_post n es k h = fill n post _ (inl refl) es k (an_atom n _ _ (λ t. left_out n post_tail _ refl es _ (h _)))

a_unary : Fills unary
a_unary n es k h = fill n unary _ (inr (inl refl)) es k (a_post n es _ (λ t. h _))

a_prod : Fills prod
a_prod n es k h = fill n prod _ (inl refl) es k (a_unary n _ _ (λ t. left_out n prod_tail _ refl es _ (h _)))

a_sum : Fills sum
a_sum n es k h = fill n sum _ (inl refl) es k (a_prod n _ _ (λ t. left_out n sum_tail _ refl es _ (h _)))

a_rel : Fills rel
a_rel n es k h = fill n rel _ (inl refl) es k (a_sum n _ _ (λ t. left_out n rel_tail _ refl es _ (h _)))

a_neg : Fills neg
a_neg n es k h = fill n neg _ (inr (inl refl)) es k (a_rel n es _ (λ t. h _))

a_conj : Fills conj
a_conj n es k h = fill n conj _ (inl refl) es k (a_neg n _ _ (λ t. left_out n and_tail _ refl es _ (h _)))

an_expr : Fills expr
an_expr n es k h = fill n expr _ (inl refl) es k (a_conj (n + 1) _ _ (λ t. left_out (n + 1) or_tail _ refl es _ (h _)))

a_member : Fills member
a_member n es k h = fill n member _ (inl refl) es k (a_text n _ _ (λ key. the_word (codes ":") n _ _ (λ u. an_expr n es _ (λ t. h _))))

a_block : Fills block
a_block n es k h = fill n block _ (inl refl) es k (the_word (codes "{") (n + 1) _ _ (λ u. left_out (n + 1) more_stmts _ refl _ _ (the_word (codes "}") (n + 1) es _ (λ v. h _))))

a_stmt : Fills stmt
a_stmt n es k h = fill n stmt _ (chosen_rule (λ c. opens_with c (Sign (codes "abort"))) (rules n stmt) _ refl) es k (the_word (codes "abort") n _ _ (λ u. the_word (codes ";") n es _ (λ v. h _)))

a_cell : Fills cell
a_cell n es k h = fill n cell _ (inl refl) es k (a_name n _ _ (λ t. the_word (codes "[") n _ _ (λ u. an_expr n _ _ (λ e. the_word (codes "]") n es _ (λ v. h _)))))

a_function : Fills function
a_function n es k h = fill n function _ (inl refl) es k (the_word (codes "function") n _ _ (λ u. a_name n _ _ (λ f. the_word (codes "(") n _ _ (λ v. a_name n _ _ (λ x. the_word (codes ")") n _ _ (λ w. the_word (codes "{") n _ _ (λ z.
    left_out n more_tables _ refl _ _ (left_out n more_stmts _ refl _ _ (the_word (codes "}") n es _ (λ e. h _))))))))))

an_end : Fills the_end
an_end n es k h = fill n the_end _ (inl refl) es k (the_word (codes "script") n es _ (λ u. h _))

a_deployment : Fills deployment
a_deployment n es k h = fill n deployment _ (inl refl) es k (the_word (codes "life") n _ _ (λ u. an_int 1 _ n _ _ (λ l. the_word (codes ";") n _ _ (λ v. left_out n room _ refl _ _ (left_out n more_functions _ refl _ _ (an_end n es _ (λ w. h _)))))))

fill_one : (a : Symbol) → Fills a
fill_one (word w) = the_word w
fill_one NAME = a_name
fill_one (INT least most) = an_int least most
fill_one TEXT = a_text
fill_one END = λ n es k h. fill_token n END End 0 (refl, refl) es k h
fill_one deployment = a_deployment
fill_one the_end = an_end
fill_one function = a_function
fill_one block = a_block
fill_one stmt = a_stmt
fill_one cell = a_cell
fill_one REL = λ n es k h. fill n REL _ (inl refl) es k (the_word (codes "==") n es _ (λ u. h _))
fill_one expr = an_expr
fill_one conj = a_conj
fill_one neg = a_neg
fill_one rel = a_rel
fill_one sum = a_sum
fill_one prod = a_prod
fill_one unary = a_unary
fill_one post = a_post
fill_one atom = an_atom
fill_one member = a_member
fill_one a = λ n es k h. left_out n a _ refl es k (h _)

pub fills : (cs : List Place) (k : Act cs Deployment) → Filled cs k
fills [] k = record { us = []; code = k; yields = nothing k }
fills (place n a ∷ es) k = fill_one a n es k (λ x. fills es (k x))
