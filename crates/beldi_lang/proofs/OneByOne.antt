-- A body that had its answers one after another, or all at once, is the same: where it stopped it goes on from its place.
use Rattle.beldi_lang.specs.BodyRuns.{followed, fault, asks, or_fault, answered, looped, closed, transact, body}
use Rattle.beldi_lang.proofs.Names.{Afresh, Answer, Block, Bool, Breaks, Code, Command, Commands, Deployment, Ending, Ends, Err, Exit, First, Frame, From, Func, Completes, In, Inside, List, None, Ok, Option, Part, Request, Result, Second, Some, Start, State, TableHead, Term, Turn, Went, [], abort, and_then, ap, asked, async, begins, begun_inside, body_of, break, by_test, call, choice, choose, command, condwrite, done, ended, enters, false, head, if◌then◌else◌, inner, is_none_held, leaves, lock, loop, may_count, name_of, no_commands, not, one_more, read, refl, repeat, requested, restored, return, run, run_block, run_body, set, shifted, simple, stops, suc, sym, tables_of, term_value, transaction, true, truth, turns, unlock, inside_part, write, zero, ℕ, ◌++◌, ◌∙◌, ◌∷◌, ◌≡◌, Outcome}

-- what goes on from a place
abbrev pub On : Type 0 → Type 0
On P = P → State → Answer → List Answer → Went P

-- with more answers: where it stopped it goes on with them, and where it left they remain
abbrev pub on : {P : Type 0} → On P → Answer → List Answer → Went P → Went P
on k a more (stops e at s) = k at s a more
on k a more (leaves x s rest) = leaves x s (rest ++ a ∷ more)

abbrev pub on_block : Block → On (ℕ × List Frame)
on_block f at s a more = f at.0 (From at.1 a) s more

abbrev pub IsOn : {P : Type 0} → On P → Answer → List Answer → (List Answer → Went P) → Type 0
IsOn k a more f = (rest : List Answer) → f (rest ++ a ∷ more) ≡ on k a more (f rest)

abbrev pub GoesOn : Block → Answer → List Answer → Type 0
GoesOn f a more = (n : ℕ) (st : Start) (s : State) (rest : List Answer) → f n st s (rest ++ a ∷ more) ≡ on (on_block f) a more (f n st s rest)

on_shifted : (a : Answer) (more : List Answer) (f : Block) (k : On (ℕ × List Frame)) → ((at : ℕ × List Frame) (s : State) → k (suc at.0, at.1) s a more ≡ shifted (f at.0 (From at.1 a) s more)) → (w : Went (ℕ × List Frame)) → shifted (on (on_block f) a more w) ≡ on k a more (shifted w)
on_shifted a more f k h (stops e at s) = sym (h at s)
on_shifted a more f k h (leaves x s rest) = refl

on_within : (a : Answer) (more : List Answer) (f : Block) (p : Part) (k : On (List Frame)) → ((at : ℕ × List Frame) (s : State) → k (In p at.0 ∷ at.1) s a more ≡ inside_part p (f at.0 (From at.1 a) s more)) → (w : Went (ℕ × List Frame)) → inside_part p (on (on_block f) a more w) ≡ on k a more (inside_part p w)
on_within a more f p k h (stops e at s) = sym (h at s)
on_within a more f p k h (leaves x s rest) = refl

-- a block as a part of its statement
in_part : (a : Answer) (more : List Answer) (f : Block) → GoesOn f a more → (p : Part) (k : On (List Frame)) → ((at : ℕ × List Frame) (s : State) → k (In p at.0 ∷ at.1) s a more ≡ inside_part p (f at.0 (From at.1 a) s more)) → (n : ℕ) (st : Start) (s : State) (rest : List Answer) → inside_part p (f n st s (rest ++ a ∷ more)) ≡ on k a more (inside_part p (f n st s rest))
in_part a more f law p k h n st s rest = ap (inside_part p) (law n st s rest) ∙ on_within a more f p k h (f n st s rest)

by_bool : {P : Type 0} (k : On P) (a : Answer) (more : List Answer) (b : Bool) (v w x y : Went P) → v ≡ on k a more w → x ≡ on k a more y → (if b then v else x) ≡ on k a more (if b then w else y)
by_bool k a more true v w x y p q = p
by_bool k a more false v w x y p q = q

-- ---- statements without blocks

on_answered : (a : Answer) (more : List Answer) (k : On (List Frame)) (n : Option (List ℕ)) (b : Answer) (s : State) (rest : List Answer) → answered n b s (rest ++ a ∷ more) ≡ on k a more (answered n b s rest)
on_answered a more k n Answer.Done s rest = refl
on_answered a more k n (Answer.Value v) s rest = refl
on_answered a more k n (Answer.Fault c) s rest = refl
on_answered a more k n (Answer.Aborted c) s rest = refl

on_asked : (a : Answer) (more : List Answer) (k : On (List Frame)) (n : Option (List ℕ)) → ((s : State) → k [] s a more ≡ answered n a s more) → (q : Request) (rest : List Answer) → asked n q (rest ++ a ∷ more) ≡ on k a more (asked n q rest)
on_asked a more k n h (done x s) rest = refl
on_asked a more k n h (asks e s) [] = sym (h s)
on_asked a more k n h (asks e s) (b ∷ rest) = on_answered a more k n b s rest

abbrev on_simple : Option (List ℕ) → (State → Result Request Code) → On (List Frame)
on_simple n q at s a more = simple n q (From at a) s more

simple_on : (a : Answer) (more : List Answer) (n : Option (List ℕ)) (q : State → Result Request Code) (st : Start) (s : State) (rest : List Answer) → simple n q st s (rest ++ a ∷ more) ≡ on (on_simple n q) a more (simple n q st s rest)
simple_on a more n q Afresh s rest = on_asked a more (on_simple n q) n (λ s. refl) (or_fault s (q s)) rest
simple_on a more n q (From at b) s rest = on_answered a more (on_simple n q) n b s rest

-- ---- statements with blocks

module _ (a : Answer) (more : List Answer) (f g : Block) (law_f : GoesOn f a more) (law_g : GoesOn g a more) where
  module _ (e : Term) where
    abbrev on_choice : On (List Frame)
    on_choice at s b rest = choice f g e (head (From at b)) (inner (From at b)) s rest

    on_test : (r : Result Bool Code) (s : State) (rest : List Answer) → by_test f g r s (rest ++ a ∷ more) ≡ on on_choice a more (by_test f g r s rest)
    on_test (Ok true) s rest = in_part a more f law_f First on_choice (λ at s. refl) 0 Afresh s rest
    on_test (Ok false) s rest = in_part a more g law_g Second on_choice (λ at s. refl) 0 Afresh s rest
    on_test (Err c) s rest = refl

    choice_on : (o : Option Frame) (st : Start) (s : State) (rest : List Answer) → choice f g e o st s (rest ++ a ∷ more) ≡ on on_choice a more (choice f g e o st s rest)
    choice_on None st s rest = on_test (and_then (term_value s.variables e) truth) s rest
    choice_on (Some (In First i)) st s rest = in_part a more f law_f First on_choice (λ at s. refl) i st s rest
    choice_on (Some (In Second i)) st s rest = in_part a more g law_g Second on_choice (λ at s. refl) i st s rest
    choice_on (Some (In (Turn n) i)) st s rest = on_test (and_then (term_value s.variables e) truth) s rest
    choice_on (Some (In Inside i)) st s rest = on_test (and_then (term_value s.variables e) truth) s rest
    choice_on (Some (Ending x)) st s rest = on_test (and_then (term_value s.variables e) truth) s rest

  module _ (times : ℕ) where
    abbrev on_loop : On (List Frame)
    on_loop at s b rest = loop f times (head (From at b)) (inner (From at b)) s rest

    on_looped : (n : ℕ) → ((s : State) (rest : List Answer) → turns f n s (rest ++ a ∷ more) ≡ on on_loop a more (turns f n s rest)) → (w : Went (ℕ × List Frame)) → looped (turns f n) (inside_part (Turn n) (on (on_block f) a more w)) ≡ on on_loop a more (looped (turns f n) (inside_part (Turn n) w))
    on_looped n h (stops e at s) = refl
    on_looped n h (leaves Completes s rest) = h s rest
    on_looped n h (leaves Breaks s rest) = refl
    on_looped n h (leaves (Ends o) s rest) = refl

    turns_on : (n : ℕ) (s : State) (rest : List Answer) → turns f n s (rest ++ a ∷ more) ≡ on on_loop a more (turns f n s rest)
    turns_on zero s rest = refl
    turns_on (suc n) s rest =
        by_bool on_loop a more (may_count s) _ (looped (turns f n) (inside_part (Turn n) (f 0 Afresh (one_more s) rest))) _ (fault Code.Steps s rest)
        (ap (λ w. looped (turns f n) (inside_part (Turn n) w)) (law_f 0 Afresh (one_more s) rest) ∙ on_looped n (turns_on n) (f 0 Afresh (one_more s) rest)) refl

    loop_on : (o : Option Frame) (st : Start) (s : State) (rest : List Answer) → loop f times o st s (rest ++ a ∷ more) ≡ on on_loop a more (loop f times o st s rest)
    loop_on None st s rest = turns_on times s rest
    loop_on (Some (In First i)) st s rest = turns_on times s rest
    loop_on (Some (In Second i)) st s rest = turns_on times s rest
    loop_on (Some (In (Turn n) i)) st s rest = ap (λ w. looped (turns f n) (inside_part (Turn n) w)) (law_f i st s rest) ∙ on_looped n (turns_on n) (f i st s rest)
    loop_on (Some (In Inside i)) st s rest = turns_on times s rest
    loop_on (Some (Ending x)) st s rest = turns_on times s rest

  abbrev on_transact : On (List Frame)
  on_transact at s b rest = transact f g (head (From at b)) (inner (From at b)) s rest

  on_ended : (x : Exit) (s : State) (rest : List Answer) → ended g x s (rest ++ a ∷ more) ≡ on on_transact a more (ended g x s rest)
  on_ended Completes s rest = refl
  on_ended Breaks s rest = refl
  on_ended (Ends (Outcome.Value v)) s rest = refl
  on_ended (Ends (Outcome.Fault c)) s rest = refl
  on_ended (Ends (Outcome.Aborted c)) s rest = in_part a more g law_g Second on_transact (λ at s. refl) 0 Afresh (restored s) rest

  on_closed : (w : Went (ℕ × List Frame)) → closed g (inside_part Inside (on (on_block f) a more w)) ≡ on on_transact a more (closed g (inside_part Inside w))
  on_closed (stops e at s) = refl
  on_closed (leaves x s []) = refl
  on_closed (leaves x s (b ∷ rest)) = on_ended x s rest

  closed_on : (n : ℕ) (st : Start) (s : State) (rest : List Answer) → closed g (inside_part Inside (f n st s (rest ++ a ∷ more))) ≡ on on_transact a more (closed g (inside_part Inside (f n st s rest)))
  closed_on n st s rest = ap (λ w. closed g (inside_part Inside w)) (law_f n st s rest) ∙ on_closed (f n st s rest)

  begins_on : (s : State) (rest : List Answer) → begins f g s (rest ++ a ∷ more) ≡ on on_transact a more (begins f g s rest)
  begins_on s [] = refl
  begins_on s (b ∷ rest) = closed_on 0 Afresh (begun_inside s) rest

  enters_on : (s : State) (rest : List Answer) → enters f g s (rest ++ a ∷ more) ≡ on on_transact a more (enters f g s rest)
  enters_on s rest =
      by_bool on_transact a more s.inside _ (inside_part First (f 0 Afresh s rest)) _ (if not (is_none_held s.held) then fault Code.LocksHeld s rest else if may_count s then begins f g (one_more s) rest else fault Code.Steps s rest)
      (in_part a more f law_f First on_transact (λ at s. refl) 0 Afresh s rest)
      (by_bool on_transact a more (not (is_none_held s.held)) _ (fault Code.LocksHeld s rest) _ (if may_count s then begins f g (one_more s) rest else fault Code.Steps s rest) refl
      (by_bool on_transact a more (may_count s) _ (begins f g (one_more s) rest) _ (fault Code.Steps s rest) (begins_on (one_more s) rest) refl))

  transact_on : (o : Option Frame) (st : Start) (s : State) (rest : List Answer) → transact f g o st s (rest ++ a ∷ more) ≡ on on_transact a more (transact f g o st s rest)
  transact_on None Afresh s rest = enters_on s rest
  transact_on None (From at b) s rest = closed_on 0 Afresh (begun_inside s) rest
  transact_on (Some (In First i)) st s rest = in_part a more f law_f First on_transact (λ at s. refl) i st s rest
  transact_on (Some (In Second i)) st s rest = in_part a more g law_g Second on_transact (λ at s. refl) i st s rest
  transact_on (Some (In (Turn n) i)) st s rest = enters_on s rest
  transact_on (Some (In Inside i)) st s rest = closed_on i st s rest
  transact_on (Some (Ending x)) st s rest = on_ended x s rest

-- ---- all statements

module _ (d : Deployment) (ts : List TableHead) (a : Answer) (more : List Answer) where
  abbrev on_run : Command → On (List Frame)
  on_run c at s b rest = run d ts c (From at b) s rest

  on_followed : (c : Command) (cs : Commands) → GoesOn (run_block d ts cs) a more → (w : Went (List Frame)) → followed (run_block d ts cs 0 Afresh) (on (on_run c) a more w) ≡ on (on_block (run_block d ts (command c cs))) a more (followed (run_block d ts cs 0 Afresh) w)
  on_followed c cs law (stops e at s) = refl
  on_followed c cs law (leaves Completes s rest) = ap shifted (law 0 Afresh s rest) ∙ on_shifted a more (run_block d ts cs) (on_block (run_block d ts (command c cs))) (λ at s. refl) (run_block d ts cs 0 Afresh s rest)
  on_followed c cs law (leaves Breaks s rest) = refl
  on_followed c cs law (leaves (Ends o) s rest) = refl

  mutual
    run_on : (c : Command) (st : Start) (s : State) (rest : List Answer) → run d ts c st s (rest ++ a ∷ more) ≡ on (on_run c) a more (run d ts c st s rest)
    run_on (transaction l b c) st s rest = transact_on a more (run_block d ts b) (run_block d ts c) (block_on b) (block_on c) (head st) (inner st) s rest
    run_on (choose l e b c) st s rest = choice_on a more (run_block d ts b) (run_block d ts c) (block_on b) (block_on c) e (head st) (inner st) s rest
    run_on (repeat l n b) st s rest = loop_on a more (run_block d ts b) (run_block d ts b) (block_on b) (block_on b) n (head st) (inner st) s rest
    run_on (set l n e) st s rest = simple_on a more (name_of (set l n e)) (requested d ts (set l n e)) st s rest
    run_on (read l n t k) st s rest = simple_on a more (name_of (read l n t k)) (requested d ts (read l n t k)) st s rest
    run_on (write l t k e) st s rest = simple_on a more (name_of (write l t k e)) (requested d ts (write l t k e)) st s rest
    run_on (condwrite l n t k r o e) st s rest = simple_on a more (name_of (condwrite l n t k r o e)) (requested d ts (condwrite l n t k r o e)) st s rest
    run_on (call l n f e) st s rest = simple_on a more (name_of (call l n f e)) (requested d ts (call l n f e)) st s rest
    run_on (async l f e) st s rest = simple_on a more (name_of (async l f e)) (requested d ts (async l f e)) st s rest
    run_on (lock l t k) st s rest = simple_on a more (name_of (lock l t k)) (requested d ts (lock l t k)) st s rest
    run_on (unlock l t k) st s rest = simple_on a more (name_of (unlock l t k)) (requested d ts (unlock l t k)) st s rest
    run_on (abort l) st s rest = simple_on a more (name_of (abort l)) (requested d ts (abort l)) st s rest
    run_on (break l) st s rest = simple_on a more (name_of (break l)) (requested d ts (break l)) st s rest
    run_on (return l e) st s rest = simple_on a more (name_of (return l e)) (requested d ts (return l e)) st s rest

    block_on : (b : Commands) → GoesOn (run_block d ts b) a more
    block_on no_commands n st s rest = refl
    block_on (command c cs) zero st s rest = ap (followed (run_block d ts cs 0 Afresh)) (run_on c st s rest) ∙ on_followed c cs (block_on cs) (run d ts c st s rest)
    block_on (command c cs) (suc n) st s rest = ap shifted (block_on cs n st s rest) ∙ on_shifted a more (run_block d ts cs) (on_block (run_block d ts (command c cs))) (λ at s. refl) (run_block d ts cs n st s rest)

-- ---- bodies

module _ (d : Deployment) (o : Option Func) (a : Answer) (more : List Answer) where
  abbrev pub on_body : On (List Frame)
  on_body at s b rest = run_body d o (From at b) s rest

  body_law : GoesOn (run_block d (tables_of o) (body_of o)) a more
  body_law = block_on d (tables_of o) a more (body_of o)

  from_body : (h : Option Frame) (st : Start) (s : State) (rest : List Answer) → body (run_block d (tables_of o) (body_of o)) h st s (rest ++ a ∷ more) ≡ on on_body a more (body (run_block d (tables_of o) (body_of o)) h st s rest)
  from_body None st s rest = in_part a more (run_block d (tables_of o) (body_of o)) body_law First on_body (λ at s. refl) 0 Afresh s rest
  from_body (Some (In p i)) st s rest = in_part a more (run_block d (tables_of o) (body_of o)) body_law First on_body (λ at s. refl) i st s rest
  from_body (Some (Ending x)) st s rest = in_part a more (run_block d (tables_of o) (body_of o)) body_law First on_body (λ at s. refl) 0 Afresh s rest

  pub body_on : (st : Start) (s : State) (rest : List Answer) → run_body d o st s (rest ++ a ∷ more) ≡ on on_body a more (run_body d o st s rest)
  body_on st s rest = from_body (head st) (inner st) s rest
