-- Statements and deployments are read as the grammar has them.
use Rattle.std.specs.Prelude.{◌^◌}
use Rattle.beldi_syntax.{specs.Phrase.take, specs.Expressions.expr_at, specs.Statements.block_at, proofs.Lookahead.is_that, proofs.Lookahead.select, proofs.Lookahead.starts, proofs.Lookahead.first_of_two}
use Rattle.beldi_syntax.proofs.Names.{Act, Bool, Command, Deployment, END, End, Func, INT, Lexeme, List, NAME, None, OfNumber, Option, Place, REL, Read, Rel, Sign, Some, Symbol, Syntax, TableHead, Term, Token, TooDeep, [], abort, after, after_first, ap, arith, async, async_of, at, bad, block, body, break, by, call_of, cell, choose, codes, commands_of, condition, condwrite, condwrite_of, deployment, else_tail, end_token, expr, false, function, function_of, functions, give, got, head, if_of, if◌then◌else◌, inl, inr, is_at_end, is_long, life, line_of, lock, lock_of, more_functions, more_stmts, more_tables, next_is, next_stmt, on_item, otherwise, past_token, place, plain, read, read_cell, read_deployment, read_end, read_of, read_room, read_stmt, refl, refuse, relation, relation_at, relation_or, repeat, repeat_of, return, return_of, room, rules, run, set, set_of, stmt, stmt_of, stmts, subst, suc, sum, table_of, tables, the_end, transaction, transaction_of, true, unlock, unlock_of, word, write, write_of, zero, ℕ, ◌++◌, ◌+◌, ◌<◌, ◌>>=◌, ◌||◌, ◌∙◌, ◌∷◌, ◌≡◌}
use Rattle.beldi_syntax.proofs.Sound.{Stack, stack, Step, Run, went, Halt, Explained, Sound, push, opened, by_rule, seq, given, told_made, made, told_by, ruled, told_if, Low, NoneOf, nothing_of, also_not, skips, skips_end, by_sign, sign_skips, not_sign, free, one, halted, told_bad, taken, named, numbered, Eaten, Else, sign_run, choice, whole, else_refused, else_given, some_same, Turn, Turns, repeats, Leads, leads, guarded, onwards, next_one, none_more}
use Rattle.beldi_syntax.proofs.Terms.{Reads, expr_ops, relates, relates_not, rel_run, parts, arguments, sums_read, exprs_at, first_is, kind_step, too_deep, low_at}

-- ---- statements

relation_told : (n : ℕ) (es : List Place) (k : Rel → Act es Deployment) (s : List Lexeme) (o : Option Rel) → Low n → relation_at s ≡ o → Explained (relation_or o s) (push n REL es k) (λ r. stack es (k r)) s
relation_told n es k s None l g = told_bad n REL es k s refl refl (relates_not s g)
relation_told n es k s (Some v) l g = rel_run n es k s v l (relates s v g)

relation_is : (n : ℕ) (es : List Place) (k : Rel → Act es Deployment) → Low n → Sound relation (push n REL es k) (λ r. stack es (k r))
relation_is n es k l = record { told = λ s. relation_told n es k s (relation_at s) l refl }

-- `;`
closed : {A : Type 0} (n : ℕ) (es : List Place) (k : A → Act es Deployment) (c : A) → Low n → Sound (take (codes ";") >>= λ u. give c) (stack (place n (word (codes ";")) ∷ es) (λ line. k c)) (λ x. stack es (k x))
closed n es k c l = seq (taken (codes ";") n es (k c) l) (λ u. given c (λ x. stack es (k x)))

cells : (n : ℕ) (p : List Lexeme → Read Term) (es : List Place) (k : List ℕ × Term → Act es Deployment) → Low n → Reads expr p n expr_ops → Sound (read_cell p) (push n cell es k) (λ c. stack es (k c))
cells n p es k l h = ruled n cell _ es k refl (seq (named n _ (λ t a key b. k (t, key)) l) (λ t. seq (parts n p (codes "[") _ (λ key b. k (t, key)) l h refl) (λ key. seq (taken (codes "]") n es (k (t, key)) l) (λ u. given (t, key) (λ c. stack es (k c))))))

-- what follows the first word of a statement
abbrev Follows : (n : ℕ) (es : List Place) → (Command → Act es Deployment) → (p : List Lexeme → Read Command) (bs : List Symbol) → Act (at n bs) Command → Type 0
Follows n es k p bs m = Sound p (opened stmt (by (at n bs) m) es k) (λ c. stack es (k c))

sets : (n line : ℕ) (p : List Lexeme → Read Term) (es : List Place) (k : Command → Act es Deployment) → Low n → Reads expr p n expr_ops → Follows n es k (set_of p line) (NAME ∷ word (codes "=") ∷ expr ∷ word (codes ";") ∷ []) (λ x a e b. set line x e)
sets n line p es k l h = seq (named n _ (λ x a e b. k (set line x e)) l) (λ x. seq (parts n p (codes "=") _ (λ e b. k (set line x e)) l h refl) (λ e. closed n es k (set line x e) l))

reads : (n line : ℕ) (p : List Lexeme → Read Term) (es : List Place) (k : Command → Act es Deployment) → Low n → Reads expr p n expr_ops → Follows n es k (read_of p line) (NAME ∷ word (codes "=") ∷ cell ∷ word (codes ";") ∷ []) (λ x a c b. read line x c.0 c.1)
reads n line p es k l h = seq (named n _ (λ x a c b. k (read line x c.0 c.1)) l) (λ x. seq (taken (codes "=") n _ (λ c b. k (read line x c.0 c.1)) l) (λ u. seq (cells n p _ (λ c b. k (read line x c.0 c.1)) l h) (λ c. closed n es k (read line x c.0 c.1) l)))

writes : (n line : ℕ) (p : List Lexeme → Read Term) (es : List Place) (k : Command → Act es Deployment) → Low n → Reads expr p n expr_ops → Follows n es k (write_of p line) (cell ∷ word (codes "=") ∷ expr ∷ word (codes ";") ∷ []) (λ c a e b. write line c.0 c.1 e)
writes n line p es k l h = seq (cells n p _ (λ c a e b. k (write line c.0 c.1 e)) l h) (λ c. seq (parts n p (codes "=") _ (λ e b. k (write line c.0 c.1 e)) l h refl) (λ e. closed n es k (write line c.0 c.1 e) l))

conditions : (n : ℕ) (p : List Lexeme → Read Term) (es : List Place) (k : Rel × (Term × Term) → Act es Deployment) → Low n → Reads expr p n expr_ops → Sound (condition p) (stack (at n (REL ∷ sum ∷ word (codes "then") ∷ expr ∷ word (codes ";") ∷ []) ++ es) (λ r o a e b. k (r, (o, e)))) (λ w. stack es (k w))
conditions n p es k l h = seq (relation_is n _ (λ r o a e b. k (r, (o, e))) l) (λ r. seq (sums_read n p l h _ (λ o a e b. k (r, (o, e))) refl) (λ o. seq (parts n p (codes "then") _ (λ e b. k (r, (o, e))) l h refl) (λ e. closed n es k (r, (o, e)) l)))

condwrites : (n line : ℕ) (p : List Lexeme → Read Term) (es : List Place) (k : Command → Act es Deployment) → Low n → Reads expr p n expr_ops
    → Follows n es k (condwrite_of p line) (NAME ∷ word (codes "=") ∷ cell ∷ REL ∷ sum ∷ word (codes "then") ∷ expr ∷ word (codes ";") ∷ []) (λ x a c r o b e d. condwrite line x c.0 c.1 r o e)
condwrites n line p es k l h = seq (named n _ (λ x a c r o b e d. k (condwrite line x c.0 c.1 r o e)) l) (λ x. seq (taken (codes "=") n _ (λ c r o b e d. k (condwrite line x c.0 c.1 r o e)) l) (λ u. seq (cells n p _ (λ c r o b e d. k (condwrite line x c.0 c.1 r o e)) l h) (λ c.
    made (λ w. condwrite line x c.0 c.1 w.0 w.1.0 w.1.1) (conditions n p es (λ w. k (condwrite line x c.0 c.1 w.0 w.1.0 w.1.1)) l h))))

calls_read : (n line : ℕ) (p : List Lexeme → Read Term) (es : List Place) (k : Command → Act es Deployment) → Low n → Reads expr p n expr_ops
    → Follows n es k (call_of p line) (NAME ∷ word (codes "=") ∷ NAME ∷ word (codes "(") ∷ expr ∷ word (codes ")") ∷ word (codes ";") ∷ []) (λ x a f b e c d. run line x f e)
calls_read n line p es k l h = seq (named n _ (λ x a f b e c d. k (run line x f e)) l) (λ x. seq (taken (codes "=") n _ (λ f b e c d. k (run line x f e)) l) (λ u. seq (named n _ (λ f b e c d. k (run line x f e)) l) (λ f. seq (arguments n p _ (λ e d. k (run line x f e)) l h) (λ e. closed n es k (run line x f e) l))))

asyncs : (n line : ℕ) (p : List Lexeme → Read Term) (es : List Place) (k : Command → Act es Deployment) → Low n → Reads expr p n expr_ops → Follows n es k (async_of p line) (NAME ∷ word (codes "(") ∷ expr ∷ word (codes ")") ∷ word (codes ";") ∷ []) (λ f b e c d. async line f e)
asyncs n line p es k l h = seq (named n _ (λ f b e c d. k (async line f e)) l) (λ f. seq (arguments n p _ (λ e d. k (async line f e)) l h) (λ e. closed n es k (async line f e) l))

locks : (n line : ℕ) (p : List Lexeme → Read Term) (es : List Place) (k : Command → Act es Deployment) → Low n → Reads expr p n expr_ops → Follows n es k (lock_of p line) (cell ∷ word (codes ";") ∷ []) (λ c a. lock line c.0 c.1)
locks n line p es k l h = seq (cells n p _ (λ c a. k (lock line c.0 c.1)) l h) (λ c. closed n es k (lock line c.0 c.1) l)

unlocks : (n line : ℕ) (p : List Lexeme → Read Term) (es : List Place) (k : Command → Act es Deployment) → Low n → Reads expr p n expr_ops → Follows n es k (unlock_of p line) (cell ∷ word (codes ";") ∷ []) (λ c a. unlock line c.0 c.1)
unlocks n line p es k l h = seq (cells n p _ (λ c a. k (unlock line c.0 c.1)) l h) (λ c. closed n es k (unlock line c.0 c.1) l)

returns : (n line : ℕ) (p : List Lexeme → Read Term) (es : List Place) (k : Command → Act es Deployment) → Low n → Reads expr p n expr_ops → Follows n es k (return_of p line) (expr ∷ word (codes ";") ∷ []) (λ e a. return line e)
returns n line p es k l h = seq (h _ (λ e a. k (return line e)) refl) (λ e. closed n es k (return line e) l)

abbrev for_block : List Token
for_block = Sign (codes "transaction") ∷ Sign (codes "repeat") ∷ Sign (codes "if") ∷ []

abbrev for_plain : List Token
for_plain = Sign (codes "break") ∷ Sign (codes "abort") ∷ Sign (codes "return") ∷ Sign (codes "async") ∷ Sign (codes "call") ∷ Sign (codes "set") ∷ for_block

on_items : (n line : ℕ) (p : List Lexeme → Read Term) (es : List Place) (k : Command → Act es Deployment) → Low n → Reads expr p n expr_ops → Else true line for_plain (on_item p line) (push n stmt es k) (λ c. stack es (k c))
on_items n line p es k l h =
    choice line _ (codes "read") n stmt _ _ es k l refl refl (reads n line p es k l h)
    (choice line _ (codes "write") n stmt _ _ es k l refl refl (writes n line p es k l h)
    (choice line _ (codes "condwrite") n stmt _ _ es k l refl refl (condwrites n line p es k l h)
    (choice line _ (codes "lock") n stmt _ _ es k l refl refl (locks n line p es k l h)
    (choice line _ (codes "unlock") n stmt _ _ es k l refl refl (unlocks n line p es k l h) (else_refused line n stmt es k refl refl)))))

plains : (n line : ℕ) (p : List Lexeme → Read Term) (es : List Place) (k : Command → Act es Deployment) → Low n → Reads expr p n expr_ops → Else true line for_block (plain p line) (push n stmt es k) (λ c. stack es (k c))
plains n line p es k l h =
    choice line _ (codes "set") n stmt _ _ es k l refl refl (sets n line p es k l h)
    (choice line _ (codes "call") n stmt _ _ es k l refl refl (calls_read n line p es k l h)
    (choice line _ (codes "async") n stmt _ _ es k l refl refl (asyncs n line p es k l h)
    (choice line _ (codes "return") n stmt _ _ es k l refl refl (returns n line p es k l h)
    (choice line _ (codes "abort") n stmt _ _ es k l refl refl (closed n es k (abort line) l)
    (choice line _ (codes "break") n stmt _ _ es k l refl refl (closed n es k (break line) l) (on_items n line p es k l h))))))

-- a phrase is a block, whatever follows
abbrev Blocks : ℕ → (List Lexeme → Read (List Command)) → Type 0
Blocks n b = (es : List Place) (k : List Command → Act es Deployment) → Sound b (push n block es k) (λ c. stack es (k c))

elses : (n : ℕ) (b : List Lexeme → Read (List Command)) (es : List Place) (k : List Command → Act es Deployment) → Low n → Blocks n b → starts es (Sign (codes "else")) ≡ false → Sound (otherwise b) (push n else_tail es k) (λ c. stack es (k c))
elses n b es k l h a = whole false (λ line. choice line _ (codes "else") n else_tail _ _ es k l refl a (h es k) (else_given [] line n else_tail [] es k refl refl refl))

ifs : (n line : ℕ) (p : List Lexeme → Read Term) (b : List Lexeme → Read (List Command)) (es : List Place) (k : Command → Act es Deployment) → Low n → Reads expr p n expr_ops → Blocks n b → starts es (Sign (codes "else")) ≡ false
    → Follows n es k (if_of p b line) (expr ∷ block ∷ else_tail ∷ []) (λ e b c. choose line e (commands_of b) (commands_of c))
ifs n line p b es k l h g a = seq (h _ (λ e b c. k (choose line e (commands_of b) (commands_of c))) refl) (λ e. seq (g _ (λ b c. k (choose line e (commands_of b) (commands_of c)))) (λ c. made (λ d. choose line e (commands_of c) (commands_of d)) (elses n b es (λ d. k (choose line e (commands_of c) (commands_of d))) l g a)))

loops : (n line : ℕ) (b : List Lexeme → Read (List Command)) (es : List Place) (k : Command → Act es Deployment) → Low n → Blocks n b → Follows n es k (repeat_of b line) (INT 0 1000 ∷ block ∷ []) (λ m b. repeat line m (commands_of b))
loops n line b es k l g = seq (numbered 0 1000 n _ (λ m b. k (repeat line m (commands_of b))) l) (λ m. made (λ c. repeat line m (commands_of c)) (g es (λ c. k (repeat line m (commands_of c)))))

transactions : (n line : ℕ) (b : List Lexeme → Read (List Command)) (es : List Place) (k : Command → Act es Deployment) → Low n → Blocks n b → Follows n es k (transaction_of b line) (block ∷ word (codes "aborted") ∷ block ∷ []) (λ b a c. transaction line (commands_of b) (commands_of c))
transactions n line b es k l g = seq (g _ (λ b a c. k (transaction line (commands_of b) (commands_of c)))) (λ c. seq (taken (codes "aborted") n _ (λ d. k (transaction line (commands_of c) (commands_of d))) l) (λ u. made (λ d. transaction line (commands_of c) (commands_of d)) (g es (λ d. k (transaction line (commands_of c) (commands_of d))))))

stmts_of : (n line : ℕ) (p : List Lexeme → Read Term) (b : List Lexeme → Read (List Command)) (es : List Place) (k : Command → Act es Deployment) → Low n → Reads expr p n expr_ops → Blocks n b → starts es (Sign (codes "else")) ≡ false → Else true line [] (stmt_of p b line) (push n stmt es k) (λ c. stack es (k c))
stmts_of n line p b es k l h g a =
    choice line _ (codes "if") n stmt _ _ es k l refl refl (ifs n line p b es k l h g a)
    (choice line _ (codes "repeat") n stmt _ _ es k l refl refl (loops n line b es k l g)
    (choice line _ (codes "transaction") n stmt _ _ es k l refl refl (transactions n line b es k l g) (plains n line p es k l h)))

-- where a step goes on unless a sign comes
is_on_unless : {B : Type 0} (b : Bool) (x z : B) → (if b then None else Some x) ≡ Some z → (b ≡ false) × (x ≡ z)
is_on_unless true x z e = absurd (cc)
is_on_unless false x z e = (refl, some_same x z e)

is_off_unless : {B : Type 0} (b : Bool) (x : B) → (if b then None else Some x) ≡ None → b ≡ true
is_off_unless true x e = refl
is_off_unless false x e = absurd (cc)

eaten_made : {A B : Type 0} (q : Read A) (m : A → B) (s : List Lexeme) → Eaten q s → Eaten (after q (λ x. give (m x))) s
eaten_made (got x r) m s h = h
eaten_made (bad line what) m s h = h

stmt_turn : (n : ℕ) (p : List Lexeme → Read Term) (b : List Lexeme → Read (List Command)) (es : List Place) (kk : List Command → ℕ → Act es Deployment) → Low n → Reads expr p n expr_ops → Blocks n b
    → (cs : List Command) (s : List Lexeme) (q : Read (List Command)) → next_stmt p b cs s ≡ Some q → Turn (λ xs. push n more_stmts (place n (word (codes "}")) ∷ es) (onwards kk xs)) cs s q
stmt_turn n p b es kk l h g cs s q e =
    let zs : List Place = place n (word (codes "}")) ∷ es in
    let f : List Command → Stack = λ xs. push n more_stmts zs (onwards kk xs) in
    let i = is_on_unless (next_is (codes "}") s) (after (read_stmt p b s) (λ y. give (cs ++ y ∷ []))) q e in
    let j : Stack = push n stmt (place n more_stmts ∷ zs) (λ c l. onwards kk cs (c ∷ l)) in
    let d = stmts_of n (line_of s) p b (place n more_stmts ∷ zs) (λ c l. onwards kk cs (c ∷ l)) l h g refl in
    let t : Explained (read_stmt p b s) j (λ c. f (cs ++ c ∷ [])) s = subst (λ m. Explained (read_stmt p b s) j m s) (λ i y. push n more_stmts zs (next_one kk cs y i)) (d.told s refl (nothing_of s)) in
    let u : Explained (after (read_stmt p b s) (λ y. give (cs ++ y ∷ []))) j f s = told_made (read_stmt p b s) (λ y. cs ++ y ∷ []) j f s t in
    let a : Eaten (after (read_stmt p b s) (λ y. give (cs ++ y ∷ []))) s = eaten_made (read_stmt p b s) (λ y. cs ++ y ∷ []) s (d.eaten s refl) in
    record {
      told = told_by q (f cs) j f s (by_rule n more_stmts _ zs (onwards kk cs) s (inl refl) (λ v y m c. first_of_two n more_stmts _ (by [] []) zs (onwards kk cs) v y refl (not_sign (codes "}") n es (onwards kk cs []) s i.0 v y m) c)) (subst (λ r. Explained r j f s) i.1 u);
      eaten = subst (λ r. Eaten r s) i.1 a;
    }

stmt_turns : (n : ℕ) (p : List Lexeme → Read Term) (b : List Lexeme → Read (List Command)) (es : List Place) (kk : List Command → ℕ → Act es Deployment) → Low n → Reads expr p n expr_ops → Blocks n b
    → Turns (next_stmt p b) (λ xs. push n more_stmts (place n (word (codes "}")) ∷ es) (onwards kk xs)) (λ xs. stack (place n (word (codes "}")) ∷ es) (kk xs))
stmt_turns n p b es kk l h g =
    let zs : List Place = place n (word (codes "}")) ∷ es in
    record {
      on = stmt_turn n p b es kk l h g;
      ends = λ cs s e. subst (λ c. Step (push n more_stmts zs (onwards kk cs)) (stack zs c) s) (none_more kk cs) (sign_skips (codes "}") n more_stmts [] zs (onwards kk cs) s refl (is_off_unless (next_is (codes "}") s) (after (read_stmt p b s) (λ y. give (cs ++ y ∷ []))) e) refl);
      over = λ cs. subst (λ c. Step (push n more_stmts zs (onwards kk cs)) (stack zs c) []) (none_more kk cs) (skips_end n more_stmts [] zs (onwards kk cs) refl);
    }

-- statements, up to `}`
all_stmts : (n : ℕ) (p : List Lexeme → Read Term) (b : List Lexeme → Read (List Command)) (es : List Place) (kk : List Command → ℕ → Act es Deployment) → Low n → Reads expr p n expr_ops → Blocks n b
    → Sound (stmts p b) (push n more_stmts (place n (word (codes "}")) ∷ es) kk) (λ xs. stack (place n (word (codes "}")) ∷ es) (kk xs))
all_stmts n p b es kk l h g = repeats (stmt_turns n p b es kk l h g) []

deep_block : (n : ℕ) (es : List Place) (k : List Command → Act es Deployment) (s : List Lexeme) → 64 < n + 1 → next_is (codes "{") s ≡ true → Halt (push n block es k) s (line_of s) TooDeep
deep_block n es k [] h i = absurd (cc)
deep_block n es k (t ∷ ts) h i = halted (push n block es k) (t ∷ ts) TooDeep (too_deep n block (word (codes "{")) _ _ es k t ts TooDeep refl refl refl h (ap (λ b. b || false) i) (ap (λ c. if past_token c then Some OfNumber else Some TooDeep) (is_that (codes "{") t.token i)))

blocks_at : (d n : ℕ) → n + d ≡ 64 → Blocks n (block_at d)
unfolding block_at
blocks_at zero n e es k = record { told = λ s. told_if (next_is (codes "{") s) (refuse TooDeep s) (refuse Syntax s) (push n block es k) (λ c. stack es (k c)) s (λ i. deep_block n es k s (omega (arith, e)) i) (λ i. told_bad n block es k s refl refl (also_not (codes "{") [] s i (nothing_of s))) }
blocks_at (suc d) n e es k =
    let f : (n + 1) + d ≡ 64 = omega (arith, e) in
    let l = low_at (n + 1) d f in
    ruled n block _ es k refl (seq (taken (codes "{") (n + 1) _ (λ cs b. k cs) l) (λ u. seq (all_stmts (n + 1) (expr_at d) (block_at d) es (λ cs b. k cs) l (exprs_at d (n + 1) f) (blocks_at d (n + 1) f)) (λ cs. seq (taken (codes "}") (n + 1) es (k cs) l) (λ v. given cs (λ c. stack es (k c))))))

-- ---- deployments

table_is : (n line : ℕ) (es : List Place) (k : TableHead → Act es Deployment) → Low n → Sound (table_of line) (stack (at n (NAME ∷ word (codes ";") ∷ []) ++ es) (λ t a. k (record { name = t; line = line }))) (λ t. stack es (k t))
table_is n line es k l = seq (named n _ (λ t a. k (record { name = t; line = line })) l) (λ t. seq (taken (codes ";") n es (k (record { name = t; line = line })) l) (λ u. given (record { name = t; line = line }) (λ x. stack es (k x))))

all_tables : (n : ℕ) (es : List Place) (k : List TableHead → Act es Deployment) → Low n → starts es (Sign (codes "table")) ≡ false → Sound tables (push n more_tables es k) (λ ts. stack es (k ts))
all_tables n es k l a = repeats (guarded (codes "table") (λ s. table_of (line_of s)) (λ xs. push n more_tables es (onwards k xs)) (λ xs. stack es (k xs))
    (λ xs s i. leads (codes "table") n more_tables _ _ es (onwards k xs) s l refl a i
    (subst (λ g. Sound (table_of (line_of s)) (stack (at n (NAME ∷ word (codes ";") ∷ more_tables ∷ []) ++ es) (λ t b ts. onwards k xs (record { name = t; line = line_of s } ∷ ts))) g) (λ i y. push n more_tables es (next_one k xs y i)) (table_is n (line_of s) (place n more_tables ∷ es) (λ t ts. onwards k xs (t ∷ ts)) l)))
    (λ xs s i. subst (λ c. Step (push n more_tables es (onwards k xs)) (stack es c) s) (none_more k xs) (skips n more_tables [] es (onwards k xs) s refl refl (also_not (codes "table") [] s i (nothing_of s))))
    (λ xs. subst (λ c. Step (push n more_tables es (onwards k xs)) (stack es c) []) (none_more k xs) (skips_end n more_tables [] es (onwards k xs) refl))) []

heads : (n : ℕ) (es : List Place) (k : List ℕ × List ℕ → Act es Deployment) → Low n → Sound head (stack (at n (NAME ∷ word (codes "(") ∷ NAME ∷ word (codes ")") ∷ []) ++ es) (λ f a x b. k (f, x))) (λ h. stack es (k h))
heads n es k l = seq (named n _ (λ f a x b. k (f, x)) l) (λ f. seq (taken (codes "(") n _ (λ x b. k (f, x)) l) (λ u. seq (named n _ (λ x b. k (f, x)) l) (λ x. seq (taken (codes ")") n es (k (f, x)) l) (λ v. given (f, x) (λ h. stack es (k h))))))

bodies : (es : List Place) (k : List TableHead × List Command → Act es Deployment) → Sound body (stack (at 0 (word (codes "{") ∷ more_tables ∷ more_stmts ∷ word (codes "}") ∷ []) ++ es) (λ a ts cs b. k (ts, cs))) (λ b. stack es (k b))
bodies es k = seq (taken (codes "{") 0 _ (λ ts cs b. k (ts, cs)) refl) (λ u. seq (all_tables 0 _ (λ ts cs b. k (ts, cs)) refl refl) (λ ts. seq (all_stmts 0 (expr_at 64) (block_at 64) es (λ cs b. k (ts, cs)) refl (exprs_at 64 0 refl) (blocks_at 64 0 refl)) (λ cs. seq (taken (codes "}") 0 es (k (ts, cs)) refl) (λ v. given (ts, cs) (λ b. stack es (k b))))))

functions_of : (line : ℕ) (es : List Place) (k : Func → Act es Deployment)
    → Sound (function_of line) (stack (at 0 (NAME ∷ word (codes "(") ∷ NAME ∷ word (codes ")") ∷ word (codes "{") ∷ more_tables ∷ more_stmts ∷ word (codes "}") ∷ []) ++ es) (λ f a x b c ts cs d. k (record { name = f; param = x; tables = ts; body = cs; line = line }))) (λ f. stack es (k f))
functions_of line es k = seq (heads 0 _ (λ h c ts cs d. k (record { name = h.0; param = h.1; tables = ts; body = cs; line = line })) refl) (λ h.
    made (λ b. record { name = h.0; param = h.1; tables = b.0; body = b.1; line = line }) (bodies es (λ b. k (record { name = h.0; param = h.1; tables = b.0; body = b.1; line = line }))))

function_leads : (es : List Place) (k : List Func → Act es Deployment) (xs : List Func) (s : List Lexeme) → starts es (Sign (codes "function")) ≡ false → next_is (codes "function") s ≡ true → Leads (push 0 more_functions es (onwards k xs)) (function_of (line_of s)) (λ y. push 0 more_functions es (onwards k (xs ++ y ∷ []))) s
function_leads es k xs s a i =
    let zs : List Place = place 0 more_functions ∷ es in
    let kk : Func → Act zs Deployment = λ f fs. onwards k xs (f ∷ fs) in
    let d = leads (codes "function") 0 function _ _ zs kk s refl refl refl i (subst (λ g. Sound (function_of (line_of s)) (stack (at 0 (NAME ∷ word (codes "(") ∷ NAME ∷ word (codes ")") ∷ word (codes "{") ∷ more_tables ∷ more_stmts ∷ word (codes "}") ∷ []) ++ zs) (λ f a x b c ts cs d. kk (record { name = f; param = x; tables = ts; body = cs; line = line_of s }))) g) (λ i y. push 0 more_functions es (next_one k xs y i)) (functions_of (line_of s) zs kk)) in
    record {
      mid = d.mid;
      less = d.less;
      run = went (push 0 more_functions es (onwards k xs)) (push 0 function zs kk) s d.mid (after_first s) (by_sign (codes "function") 0 more_functions _ es (onwards k xs) s i refl a) d.run;
      sound = d.sound;
    }

all_functions : (es : List Place) (k : List Func → Act es Deployment) → starts es (Sign (codes "function")) ≡ false → Sound functions (push 0 more_functions es k) (λ fs. stack es (k fs))
all_functions es k a = repeats (guarded (codes "function") (λ s. function_of (line_of s)) (λ xs. push 0 more_functions es (onwards k xs)) (λ xs. stack es (k xs))
    (λ xs s i. function_leads es k xs s a i)
    (λ xs s i. subst (λ c. Step (push 0 more_functions es (onwards k xs)) (stack es c) s) (none_more k xs) (skips 0 more_functions [] es (onwards k xs) s refl refl (also_not (codes "function") [] s i (nothing_of s))))
    (λ xs. subst (λ c. Step (push 0 more_functions es (onwards k xs)) (stack es c) []) (none_more k xs) (skips_end 0 more_functions [] es (onwards k xs) refl))) []

lives : (es : List Place) (k : ℕ → Act es Deployment) → Sound life (stack (at 0 (word (codes "life") ∷ INT 1 (2 ^ 32) ∷ word (codes ";") ∷ []) ++ es) (λ a l b. k l)) (λ l. stack es (k l))
lives es k = seq (taken (codes "life") 0 _ (λ l b. k l) refl) (λ u. seq (numbered 1 (2 ^ 32) 0 _ (λ l b. k l) refl) (λ l. seq (taken (codes ";") 0 es (k l) refl) (λ v. given l (λ x. stack es (k x)))))

rooms : (es : List Place) (k : ℕ → Act es Deployment) → starts es (Sign (codes "room")) ≡ false → Sound read_room (push 0 room es k) (λ r. stack es (k r))
rooms es k a = whole false (λ line. choice line _ (codes "room") 0 room _ _ es k refl refl a (seq (numbered 1 65536 0 _ (λ r b. k r) refl) (λ r. seq (taken (codes ";") 0 es (k r) refl) (λ v. given r (λ x. stack es (k x))))) (else_given 65536 line 0 room 65536 es k refl refl refl))

end_selects : (t : Token) → end_token t ≡ true → select (rules 0 the_end) t ≡ by (place 0 END ∷ []) (λ line. line) ∷ []
end_selects End h = refl
end_selects t h = absurd (cc)

end_first : (s : List Lexeme) → first_is end_token s ≡ is_at_end s
end_first [] = refl
end_first (l ∷ ls) = refl

is_end_token : (t : Token) → end_token t ≡ true → t ≡ End
is_end_token End h = refl
is_end_token t h = absurd (cc)

end_took : (k : ℕ → Deployment) (s : List Lexeme) → is_at_end s ≡ true → Run (push 0 END [] k) s (stack [] (k (line_of s))) (after_first s)
end_took k [] h = absurd (cc)
end_took k (t ∷ ts) h = let e = is_end_token t.token h in one 0 END [] k t t.line ts (e, refl) (free 0 END t.token refl refl (ap is_long e))

no_end : (s : List Lexeme) → next_is (codes "script") s ≡ false → is_at_end s ≡ false → NoneOf (Sign (codes "script") ∷ End ∷ []) s
no_end [] h k = record { is = refl }
no_end (l ∷ ls) h k = record { is = ap (λ b. b || (end_token l.token || false)) h ∙ ap (λ b. b || false) k }

end_told : (c : Deployment) (s : List Lexeme) (a b : Bool) → next_is (codes "script") s ≡ a → is_at_end s ≡ b → Explained {A = Unit {0}} (if a || b then got tt (after_first s) else refuse Syntax s) (push 0 the_end [] (λ line. c)) (λ u. stack [] c) s
end_told c s true b g f = sign_run (codes "script") 0 the_end _ _ [] (λ line. c) s refl refl refl g
end_told c s false true g f = went (push 0 the_end [] (λ line. c)) (push 0 END [] (λ line. c)) s (stack [] c) (after_first s) (kind_step end_token 0 the_end _ [] (λ line. c) (inr (inl refl)) end_selects refl s (end_first s ∙ f)) (end_took (λ line. c) s f)
end_told c s false false g f = told_bad 0 the_end [] (λ line. c) s refl refl (no_end s g f)

ended_by : (c : Deployment) → Sound read_end (push 0 the_end [] (λ line. c)) (λ u. stack [] c)
ended_by c = record { told = λ s. end_told c s (next_is (codes "script") s) (is_at_end s) refl refl }

pub deployments : Sound read_deployment (push 0 deployment [] (λ c. c)) (λ c. stack [] c)
deployments = ruled 0 deployment _ [] (λ c. c) refl
    (seq (lives _ (λ l r fs e. record { life = l; room = r; funcs = fs })) (λ l. seq (rooms _ (λ r fs e. record { life = l; room = r; funcs = fs }) refl) (λ r. seq (all_functions _ (λ fs e. record { life = l; room = r; funcs = fs }) refl) (λ fs. seq (ended_by (record { life = l; room = r; funcs = fs })) (λ u. given (record { life = l; room = r; funcs = fs }) (λ c. stack [] c))))))
