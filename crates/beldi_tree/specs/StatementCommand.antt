-- A statement as mathematics: what a `Stmt` stands for.
use Rattle.std.specs.Prelude.{◌≡◌, ℕ, ◌+◌, ◌==◌, List, [], ◌∷◌, ◌++◌, refl, if◌then◌else◌}
use Rattle.std.specs.Coded.{Coded, code_by, coded×, coded_ℕ, coded_list}
use Rattle.std.proofs.Common.{ap, ◌∙◌, append_assoc}
use Rattle.beldi_value.specs.declared.rel.Rel.{Rel, TheVariants.Eq}
use Rattle.beldi_value.specs.contracts.rel.Rel as rel
use Rattle.beldi_tree.specs.Term.{Term, null, coded_term}

-- each begins with its line
mutual
  pub data Command : Type 0 where
    set : ℕ → List ℕ → Term → Command
    read : ℕ → List ℕ → List ℕ → Term → Command
    write : ℕ → List ℕ → Term → Term → Command
    condwrite : ℕ → List ℕ → List ℕ → Term → Rel → Term → Term → Command
    call : ℕ → List ℕ → List ℕ → Term → Command
    async : ℕ → List ℕ → Term → Command
    lock : ℕ → List ℕ → Term → Command
    unlock : ℕ → List ℕ → Term → Command
    transaction : ℕ → Commands → Commands → Command
    abort : ℕ → Command
    break : ℕ → Command
    choose : ℕ → Term → Commands → Commands → Command
    repeat : ℕ → ℕ → Commands → Command
    return : ℕ → Term → Command

  pub data Commands : Type 0 where
    no_commands : Commands
    command : Command → Commands → Commands

abbrev pub commands_of : List Command → Commands
commands_of [] = no_commands
commands_of (c ∷ cs) = command c (commands_of cs)

-- how large a statement is: above each block in it, with room for the step into the block
abbrev mutual
  pub command_size : Command → ℕ
  command_size (set l n e) = 1
  command_size (read l n t k) = 1
  command_size (write l t k e) = 1
  command_size (condwrite l n t k r o e) = 1
  command_size (call l n f e) = 1
  command_size (async l f e) = 1
  command_size (lock l t k) = 1
  command_size (unlock l t k) = 1
  command_size (transaction l b c) = all_size b + all_size c + 3
  command_size (abort l) = 1
  command_size (break l) = 1
  command_size (choose l e b c) = all_size b + all_size c + 3
  command_size (repeat l n b) = all_size b + 3
  command_size (return l e) = 1

  pub all_size : Commands → ℕ
  all_size no_commands = 0
  all_size (command c cs) = command_size c + all_size cs + 1

abbrev pub block_size : List Command → ℕ
block_size cs = all_size (commands_of cs)

-- ---- the code of a statement: it is written in front order, a row for each sign, and read from the end by a stack

-- which sign, the line, how many turns, the names, the expressions, the relation
abbrev pub Row : Type 0
Row = ℕ × (ℕ × (ℕ × (List (List ℕ) × (List Term × Rel))))

abbrev pub plain_row : ℕ → ℕ → List (List ℕ) → List Term → Row
plain_row sign line names terms = (sign, (line, (0, (names, (terms, Eq)))))

abbrev pub line_of : Row → ℕ
line_of r = r.1.0

abbrev pub name_in : List (List ℕ) → List ℕ
name_in [] = []
name_in (n ∷ ns) = n

abbrev pub names_past : List (List ℕ) → List (List ℕ)
names_past [] = []
names_past (n ∷ ns) = ns

abbrev pub term_in : List Term → Term
term_in [] = null
term_in (t ∷ ts) = t

abbrev pub terms_past : List Term → List Term
terms_past [] = []
terms_past (t ∷ ts) = ts

abbrev pub first_name : Row → List ℕ
first_name r = name_in r.1.1.1.0

abbrev pub second_name : Row → List ℕ
second_name r = name_in (names_past r.1.1.1.0)

abbrev pub first_term : Row → Term
first_term r = term_in r.1.1.1.1.0

abbrev pub second_term : Row → Term
second_term r = term_in (terms_past r.1.1.1.1.0)

abbrev pub third_term : Row → Term
third_term r = term_in (terms_past (terms_past r.1.1.1.1.0))

pub data Part : Type 0 where
  one : Command → Part
  those : Commands → Part

abbrev mutual
  pub rows_of : Command → List Row
  rows_of (set l n e) = plain_row 0 l (n ∷ []) (e ∷ []) ∷ []
  rows_of (read l n t k) = plain_row 1 l (n ∷ t ∷ []) (k ∷ []) ∷ []
  rows_of (write l t k e) = plain_row 2 l (t ∷ []) (k ∷ e ∷ []) ∷ []
  rows_of (condwrite l n t k r o e) = (3, (l, (0, (n ∷ t ∷ [], (k ∷ o ∷ e ∷ [], r))))) ∷ []
  rows_of (call l n f e) = plain_row 4 l (n ∷ f ∷ []) (e ∷ []) ∷ []
  rows_of (async l f e) = plain_row 5 l (f ∷ []) (e ∷ []) ∷ []
  rows_of (lock l t k) = plain_row 6 l (t ∷ []) (k ∷ []) ∷ []
  rows_of (unlock l t k) = plain_row 7 l (t ∷ []) (k ∷ []) ∷ []
  rows_of (transaction l b c) = plain_row 8 l [] [] ∷ (block_rows b ++ block_rows c)
  rows_of (abort l) = plain_row 9 l [] [] ∷ []
  rows_of (break l) = plain_row 10 l [] [] ∷ []
  rows_of (choose l e b c) = plain_row 11 l [] (e ∷ []) ∷ (block_rows b ++ block_rows c)
  rows_of (repeat l n b) = (12, (l, (n, ([], ([], Eq))))) ∷ block_rows b
  rows_of (return l e) = plain_row 13 l [] (e ∷ []) ∷ []

  pub block_rows : Commands → List Row
  block_rows no_commands = plain_row 14 0 [] [] ∷ []
  block_rows (command c cs) = plain_row 15 0 [] [] ∷ (rows_of c ++ block_rows cs)

abbrev pub on_block : (Commands → Command) → List Part → List Part
on_block f (those b ∷ ps) = one (f b) ∷ ps
on_block f ps = ps

abbrev pub on_two : (Commands → Commands → Command) → List Part → List Part
on_two f (those b ∷ those c ∷ ps) = one (f b c) ∷ ps
on_two f ps = ps

abbrev pub onto : List Part → List Part
onto (one c ∷ those cs ∷ ps) = those (command c cs) ∷ ps
onto ps = ps

abbrev pub step : Row → List Part → List Part
step r ps =
    if r.0 == 0 then one (set (line_of r) (first_name r) (first_term r)) ∷ ps else
    if r.0 == 1 then one (read (line_of r) (first_name r) (second_name r) (first_term r)) ∷ ps else
    if r.0 == 2 then one (write (line_of r) (first_name r) (first_term r) (second_term r)) ∷ ps else
    if r.0 == 3 then one (condwrite (line_of r) (first_name r) (second_name r) (first_term r) r.1.1.1.1.1 (second_term r) (third_term r)) ∷ ps else
    if r.0 == 4 then one (call (line_of r) (first_name r) (second_name r) (first_term r)) ∷ ps else
    if r.0 == 5 then one (async (line_of r) (first_name r) (first_term r)) ∷ ps else
    if r.0 == 6 then one (lock (line_of r) (first_name r) (first_term r)) ∷ ps else
    if r.0 == 7 then one (unlock (line_of r) (first_name r) (first_term r)) ∷ ps else
    if r.0 == 8 then on_two (transaction (line_of r)) ps else
    if r.0 == 9 then one (abort (line_of r)) ∷ ps else
    if r.0 == 10 then one (break (line_of r)) ∷ ps else
    if r.0 == 11 then on_two (choose (line_of r) (first_term r)) ps else
    if r.0 == 12 then on_block (repeat (line_of r) r.1.1.0) ps else
    if r.0 == 13 then one (return (line_of r) (first_term r)) ∷ ps else
    if r.0 == 14 then those no_commands ∷ ps else
    onto ps

abbrev pub read_rows : List Row → List Part
read_rows [] = []
read_rows (r ∷ rs) = step r (read_rows rs)

abbrev pub top : List Part → Command
top (one c ∷ ps) = c
top ps = abort 0

-- two blocks, one after another, where each is read back
two : (b c : Commands) (rs : List Row) → read_rows (block_rows b ++ (block_rows c ++ rs)) ≡ those b ∷ read_rows (block_rows c ++ rs) → read_rows (block_rows c ++ rs) ≡ those c ∷ read_rows rs → read_rows ((block_rows b ++ block_rows c) ++ rs) ≡ those b ∷ those c ∷ read_rows rs
two b c rs p q = ap read_rows (append_assoc (block_rows b) (block_rows c) rs) ∙ p ∙ ap (λ ps. those b ∷ ps) q

mutual
  back : (c : Command) (rs : List Row) → read_rows (rows_of c ++ rs) ≡ one c ∷ read_rows rs
  back (set l n e) rs = refl
  back (read l n t k) rs = refl
  back (write l t k e) rs = refl
  back (condwrite l n t k r o e) rs = refl
  back (call l n f e) rs = refl
  back (async l f e) rs = refl
  back (lock l t k) rs = refl
  back (unlock l t k) rs = refl
  back (transaction l b c) rs = ap (on_two (transaction l)) (two b c rs (back_block b (block_rows c ++ rs)) (back_block c rs))
  back (abort l) rs = refl
  back (break l) rs = refl
  back (choose l e b c) rs = ap (on_two (choose l e)) (two b c rs (back_block b (block_rows c ++ rs)) (back_block c rs))
  back (repeat l n b) rs = ap (on_block (repeat l n)) (back_block b rs)
  back (return l e) rs = refl

  back_block : (b : Commands) (rs : List Row) → read_rows (block_rows b ++ rs) ≡ those b ∷ read_rows rs
  back_block no_commands rs = refl
  back_block (command c cs) rs =
      ap (λ qs. onto (read_rows qs)) (append_assoc (rows_of c) (block_rows cs) rs)
      ∙ ap onto (back c (block_rows cs ++ rs) ∙ ap (λ ps. one c ∷ ps) (back_block cs rs))

pub again : (c : Command) → top (read_rows (rows_of c ++ [])) ≡ c
again c = ap top (back c [])

abbrev pub coded_command : Coded Command
coded_command = code_by (List Row) (coded_list (coded× coded_ℕ (coded× coded_ℕ (coded× coded_ℕ (coded× (coded_list (coded_list coded_ℕ)) (coded× (coded_list coded_term) rel.the_row.coded)))))) (λ c. rows_of c ++ []) (λ rs. top (read_rows rs)) again

abbrev pub coded_block : Coded (List Command)
coded_block = coded_list coded_command
