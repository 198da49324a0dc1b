-- What is read has one of the forms.
use Rattle.std.specs.Prelude.{decimal, nat_lt, option_and_then, option_map}
use Rattle.std.{specs.Cmp.Lexicographic.same_text, specs.List.AllByRecursion, proofs.lemmas.Bool.Decides.nat_tests, proofs.lemmas.Option.same_Some}
use Rattle.std.proofs.Common.{◌≡◌, ℕ, ◌-◌, ◌^◌, ◌<◌, ◌≤◌, ◌==◌, true, false, IsTrue, List, [], ◌∷◌, ◌++◌, append-nil, length, suc, Option, Some, None, Result, Ok, Err, refl, ap, ap₂, sym, ◌∙◌, subst, inl, inr, arith, codes, eqb-true, if◌then◌else◌}
use Rattle.beldi_value.{specs.ByteCut.after, specs.ByteCut.before, specs.IdAt.hops_at, specs.IdAt.id_at, specs.IdAt.id_from, specs.IdAt.parts_of, specs.IdAt.step_at, specs.IdAt.steps_at, specs.IdAt.ticket_at, specs.IdAt.with_hops, specs.Number.numeral_at, specs.ValueText.id_text, specs.declared.id.IntentId.IntentId, specs.declared.value.Value.Value, proofs.IdTexts.alone as id_alone, proofs.IdTexts.reads as id_reads, proofs.Ints.numeral_of, proofs.Ints.numeral_back, proofs.Ints.numeral_within}
use Rattle.beldi_tree.specs.{declared.deployment.Deployment.Deployment, Bindings.is_name}
use Rattle.beldi_script.specs.declared.line.Line.TheVariants.{Blank, Ticket, Request, Turn, Lost, Crash, Restart, Ic, Gc, Sweep, Settle, Tick, Halt, Reply, Rows, Tables, Book}
use Rattle.beldi_script.specs.declared.line.{Line.Line, ScriptErr.ScriptErr}
use Rattle.beldi_script.specs.ScriptLine.{◌>>=◌, called, formed, func_named, line_at, request_at, restart_at, said, value_at}
use Rattle.beldi_script.specs.{Forms.HasForm, Forms.LinesHaveForms, Forms.Names, Forms.SaysTimes, ScriptText.IsId}
use Rattle.beldi_script.proofs.{Parted.id_unspaced, Parted.number_unspaced, Parted.parts, Parted.whole, ReadAgain.budget_read, ReadAgain.collector_read, ReadAgain.number_parts, ReadAgain.small_read, ReadAgain.sweep_read, ReadAgain.times_read, ReadAgain.word_unspaced}
use Rattle.beldi_script.specs.ScriptWords.{alone, budget_at, collector_at, count_at, counted, gc_at, is_blank, is_word, name_at, numbered, small_at, sweep_at, times_at, turn_at}

same_ok : {A : Type 0} (a b : A) → ◌≡◌ {A = Result A ScriptErr} (Ok a) (Ok b) → a ≡ b
same_ok a b e = cc

-- ---- a text is what stands before a space, and what follows it
abbrev rest_of : Option (List ℕ) → List ℕ
rest_of None = []
rest_of (Some rest) = 32 ∷ rest

split : (text : List ℕ) → text ≡ before 32 text ++ rest_of (after 32 text)
split [] = refl
split (b ∷ bs) = elim (b == 32) as (λ t. (b == 32) ≡ t → b ∷ bs ≡ (if t then [] else b ∷ before 32 bs) ++ rest_of (if t then Some bs else after 32 bs)) [
  | true ↦ λ e. ap (λ c. c ∷ bs) (eqb-true b 32 e)
  | false ↦ λ e. ap (λ r. b ∷ r) (split bs)
] refl

split_at : (text rest : List ℕ) → after 32 text ≡ Some rest → text ≡ before 32 text ++ 32 ∷ rest
split_at text rest e = split text ∙ ap (λ o. before 32 text ++ rest_of o) e

-- by the test of a word
if_name : {X : Type 0} (P : Type 0) (word name : List ℕ) (a b z : X) → (word ≡ name → a ≡ z → P) → (b ≡ z → P) → (if is_name word name then a else b) ≡ z → P
if_name P word name a b z f g h = elim (is_name word name) as (λ t. is_name word name ≡ t → (if t then a else b) ≡ z → P) [
  | true ↦ λ e. f (same_text word name (sym e))
  | false ↦ λ e. g
] refl h

-- ---- numbers
small_from : (w : List ℕ) (n : ℕ) → small_at w ≡ Some n → (n < 2 ^ 32) × (decimal n ≡ w)
small_from w n e = let small = numeral_within (2 ^ 32 - 1) n w e in (omega (arith, small), numeral_back (2 ^ 32 - 1) n w (omega arith) e)

collector_from : (w : List ℕ) (k : ℕ) → collector_at w ≡ Some k → (k ≤ 7) × (decimal k ≡ w)
collector_from w k e = (numeral_within 7 k w e, numeral_back 7 k w (omega arith) e)

some_from : (o : Option ℕ) (n : ℕ) → option_and_then (λ m. if m == 0 then None else Some m) o ≡ Some n → (o ≡ Some n) × (0 < n)
some_from None n e = cc
some_from (Some m) n e = elim (m == 0) as (λ t. (m == 0) ≡ t → (if t then None else Some m) ≡ Some n → (Some m ≡ Some n) × (0 < n)) [
  | true ↦ λ f g. cc
  | false ↦ λ f g. (g, let same = same_Some m n g in grind (arith, nat_tests))
] refl e

count_from : (most : ℕ) (w : List ℕ) (n : ℕ) → most < 2 ^ 64 → count_at most w ≡ Some n → ((0 < n) × (n ≤ most)) × (decimal n ≡ w)
count_from most w n fits e = let h = some_from (numeral_at most w) n e in ((h.1, numeral_within most n w h.0), numeral_back most n w fits h.0)

times_from : (o : Option (List ℕ)) (n : ℕ) → times_at o ≡ Some n → SaysTimes n (rest_of o)
times_from None n e = inl (sym (same_Some 1 n e), refl)
times_from (Some w) n e = let h = count_from 1000 w n (omega arith) e in inr (h.0, ap (λ x. 32 ∷ x) (sym h.1))

-- ---- lines of numbers
map_from : (F : ℕ → Line) (o : Option ℕ) (line : Line) → option_map F o ≡ Some line → (n : ℕ) × (o ≡ Some n) × (F n ≡ line)
map_from F None line e = cc
map_from F (Some n) line e = (n, refl, same_Some (F n) line e)

two_from : (F : ℕ → ℕ → Line) (a b : Option ℕ) (line : Line) → option_and_then (λ x. option_and_then (λ y. Some (F x y)) b) a ≡ Some line → (x : ℕ) × (y : ℕ) × (a ≡ Some x) × (b ≡ Some y) × (F x y ≡ line)
two_from F None b line e = cc
two_from F (Some x) None line e = cc
two_from F (Some x) (Some y) line e = (x, y, refl, refl, same_Some (F x y) line e)

module _ (code : Deployment) (line : Line) where
  turn_from : (words : List ℕ) → turn_at words ≡ Some line → HasForm code line (codes "turn " ++ words)
  turn_from words e =
      let h = two_from Turn (small_at (before 32 words)) (times_at (after 32 words)) line e in
      let n = small_from (before 32 words) h.0 h.2 in
      subst (λ l. HasForm code l (codes "turn " ++ words)) h.4 (rest_of (after 32 words), n.0, times_from (after 32 words) h.1 h.3, ap (λ t. codes "turn " ++ t) (split words ∙ ap (λ w. w ++ rest_of (after 32 words)) (sym n.1)))

  gc_from : (words : List ℕ) → gc_at words ≡ Some line → HasForm code line (codes "gc " ++ words)
  gc_from words e =
      let h = two_from Gc (collector_at (before 32 words)) (times_at (after 32 words)) line e in
      let n = collector_from (before 32 words) h.0 h.2 in
      subst (λ l. HasForm code l (codes "gc " ++ words)) h.4 (rest_of (after 32 words), n.0, times_from (after 32 words) h.1 h.3, ap (λ t. codes "gc " ++ t) (split words ∙ ap (λ w. w ++ rest_of (after 32 words)) (sym n.1)))

  sweep_by : (words : List ℕ) (o : Option (List ℕ)) → after 32 words ≡ o → option_and_then (λ last. option_and_then (λ k. option_and_then (λ budget. Some (Sweep k budget)) (budget_at last)) (collector_at (before 32 words))) o ≡ Some line
      → HasForm code line (codes "sweep " ++ words)
  sweep_by words None is e = cc
  sweep_by words (Some last) is e =
      let h = two_from Sweep (collector_at (before 32 words)) (budget_at last) line e in
      let n = collector_from (before 32 words) h.0 h.2 in
      let b = count_from 4000000000 last h.1 (omega arith) h.3 in
      subst (λ l. HasForm code l (codes "sweep " ++ words)) h.4 (n.0, b.0, ap (λ t. codes "sweep " ++ t) (split_at words last is ∙ ap₂ (λ v w. v ++ 32 ∷ w) (sym n.1) (sym b.1)))

  sweep_from : (words : List ℕ) → sweep_at words ≡ Some line → HasForm code line (codes "sweep " ++ words)
  sweep_from words e = sweep_by words (after 32 words) refl e

  -- by a line that a text has the form of
  is_line : (text : List ℕ) (l : Line) → HasForm code l text → Some l ≡ Some line → HasForm code line text
  is_line text l h e = subst (λ x. HasForm code x text) (same_Some l line e) h

  alone_from : (word : List ℕ) → alone word ≡ Some line → HasForm code line word
  alone_from word e =
      if_name (HasForm code line word) word (codes "ticket") (Some Ticket) _ (Some line) (λ n. is_line word Ticket n)
      (if_name (HasForm code line word) word (codes "ic") (Some (Ic 1)) _ (Some line) (λ n. is_line word (Ic 1) ([], inl (refl, refl), n))
      (if_name (HasForm code line word) word (codes "halt") (Some Halt) _ (Some line) (λ n. is_line word Halt n)
      (if_name (HasForm code line word) word (codes "rows") (Some Rows) _ (Some line) (λ n. is_line word Rows n)
      (if_name (HasForm code line word) word (codes "tables") (Some Tables) _ (Some line) (λ n. is_line word Tables n)
      (if_name (HasForm code line word) word (codes "book") (Some Book) None (Some line) (λ n. is_line word Book n) (λ f. cc)))))) e

  -- a word and more
  abbrev Behind : List ℕ → List ℕ → Type 0
  Behind word words = HasForm code line (word ++ 32 ∷ words)

  -- a word and one number
  one_from : (F : ℕ → Line) (word name words : List ℕ) (o : Option ℕ) → word ≡ name → option_map F o ≡ Some line → ((n : ℕ) → o ≡ Some n → HasForm code (F n) (name ++ 32 ∷ words)) → Behind word words
  one_from F word name words o same e f =
      let h = map_from F o line e in
      subst (λ w. Behind w words) (sym same) (subst (λ l. HasForm code l (name ++ 32 ∷ words)) h.2 (f h.0 h.1))

  numbered_from : (word words : List ℕ) → numbered word words ≡ Some line → Behind word words
  numbered_from word words e =
      if_name (Behind word words) word (codes "lost") (option_map Lost (small_at words)) _ (Some line) (λ s f. one_from Lost word (codes "lost") words (small_at words) s f (λ n g. let h = small_from words n g in (h.0, ap (λ w. codes "lost " ++ w) (sym h.1))))
      (if_name (Behind word words) word (codes "crash") (option_map Crash (small_at words)) _ (Some line) (λ s f. one_from Crash word (codes "crash") words (small_at words) s f (λ n g. let h = small_from words n g in (h.0, ap (λ w. codes "crash " ++ w) (sym h.1))))
      (if_name (Behind word words) word (codes "ic") (option_map Ic (count_at 1000 words)) _ (Some line)
      (λ s f. one_from Ic word (codes "ic") words (count_at 1000 words) s f (λ n g. let h = count_from 1000 words n (omega arith) g in (codes " " ++ words, inr (h.0, ap (λ w. codes " " ++ w) (sym h.1)), refl)))
      (if_name (Behind word words) word (codes "settle") (option_map Settle (budget_at words)) _ (Some line)
      (λ s f. one_from Settle word (codes "settle") words (budget_at words) s f (λ n g. let h = count_from 4000000000 words n (omega arith) g in (h.0, ap (λ w. codes "settle " ++ w) (sym h.1))))
      (if_name (Behind word words) word (codes "tick") (option_map Tick (numeral_at 4294967297 words)) _ (Some line)
      (λ s f. one_from Tick word (codes "tick") words (numeral_at 4294967297 words) s f (λ n g. (numeral_within 4294967297 n words g, ap (λ w. codes "tick " ++ w) (sym (numeral_back 4294967297 n words (omega arith) g)))))
      (if_name (Behind word words) word (codes "reply") (option_map Reply (small_at words)) None (Some line) (λ s f. one_from Reply word (codes "reply") words (small_at words) s f (λ n g. let h = small_from words n g in (h.0, ap (λ w. codes "reply " ++ w) (sym h.1)))) (λ f. cc)))))) e

  counted_from : (word words : List ℕ) → counted word words ≡ Some line → Behind word words
  counted_from word words e =
      if_name (Behind word words) word (codes "turn") (turn_at words) _ (Some line) (λ s f. subst (λ w. Behind w words) (sym s) (turn_from words f))
      (if_name (Behind word words) word (codes "gc") (gc_at words) _ (Some line) (λ s f. subst (λ w. Behind w words) (sym s) (gc_from words f))
      (if_name (Behind word words) word (codes "sweep") (sweep_at words) _ (Some line) (λ s f. subst (λ w. Behind w words) (sym s) (sweep_from words f)) (numbered_from word words))) e

-- ---- ids
abbrev AreSmall : List ℕ → Type 0
AreSmall hs = AllByRecursion (λ h. h < 2 ^ 32) hs

step_from : (o : Option ℕ) (r : Option (List ℕ)) (k : ℕ) (hs : List ℕ) → ((n : ℕ) → o ≡ Some n → n < 2 ^ 32) → ((ns : List ℕ) → r ≡ Some ns → AreSmall ns × (length ns ≡ k))
    → option_and_then (λ n. option_map (λ ns. n ∷ ns) r) o ≡ Some hs → AreSmall hs × (length hs ≡ suc k)
step_from None r k hs f g e = cc
step_from (Some n) None k hs f g e = cc
step_from (Some n) (Some ns) k hs f g e =
    let h = g ns refl in
    subst (λ z. AreSmall z × (length z ≡ suc k)) (same_Some (n ∷ ns) hs e) ((f n refl, h.0), ap suc h.1)

steps_from : (ps : List (List ℕ)) (hs : List ℕ) → steps_at ps ≡ Some hs → AreSmall hs × (length hs ≡ length ps)
steps_from [] hs e = subst (λ z. AreSmall z × (length z ≡ 0)) (same_Some [] hs e) (tt, refl)
steps_from (p ∷ ps) hs e = step_from (step_at p) (steps_at ps) (length ps) hs (λ n f. (small_from p n f).0) (λ ns. steps_from ps ns) e

hops_from : (ps : List (List ℕ)) (hs : List ℕ) → hops_at ps ≡ Some hs → AreSmall hs × (length hs ≤ 63)
hops_from ps hs e = elim (nat_lt 63 (length ps)) as (λ t. nat_lt 63 (length ps) ≡ t → (if t then None else steps_at ps) ≡ Some hs → AreSmall hs × (length hs ≤ 63)) [
  | true ↦ λ f g. cc
  | false ↦ λ f g. let h = steps_from ps hs g in (h.0, let many = h.1 in grind (arith, nat_tests))
] refl e

id_made : (o : Option ℕ) (r : Option (List ℕ)) (id : IntentId) → ((t : ℕ) → o ≡ Some t → (0 < t) × (t < 2 ^ 32)) → ((hs : List ℕ) → r ≡ Some hs → AreSmall hs × (length hs ≤ 63)) → option_and_then (with_hops r) o ≡ Some id → IsId id
id_made None r id f g e = cc
id_made (Some t) None id f g e = cc
id_made (Some t) (Some hs) id f g e = subst IsId (same_Some (record { ticket = t; hops = hs }) id e) (record { some = (f t refl).0; small = (f t refl).1; steps = (g hs refl).0; few = (g hs refl).1 })

parts_made : (ps : List (List ℕ)) (id : IntentId) → id_from ps ≡ Some id → IsId id
parts_made [] id e = cc
parts_made (p ∷ ps) id e = id_made (ticket_at p) (hops_at ps) id (λ t f. let h = some_from (step_at p) t f in (h.1, (small_from p t h.0).0)) (λ hs. hops_from ps hs) e

-- ---- the lines that name a function
then_from : {A B : Type 0} (r : Result A ScriptErr) (f : A → Result B ScriptErr) (b : B) → (r >>= f) ≡ Ok b → (a : A) × (r ≡ Ok a) × (f a ≡ Ok b)
then_from (Ok a) f b e = (a, refl, e)
then_from (Err w) f b e = cc

formed_from : {A : Type 0} (o : Option A) (a : A) → formed o ≡ Ok a → o ≡ Some a
formed_from None a e = cc
formed_from (Some x) a e = ap Some (same_ok x a e)

name_from : (w name : List ℕ) → name_at w ≡ Some name → IsTrue (is_word name) × (w ≡ name)
name_from w name e = elim (is_word w) as (λ t. is_word w ≡ t → (if t then Some w else None) ≡ Some name → IsTrue (is_word name) × (w ≡ name)) [
  | true ↦ λ f g. let same = same_Some w name g in (subst (λ v. is_word v ≡ true) same f, same)
  | false ↦ λ f g. cc
] refl e

module _ (code : Deployment) (line : Line) where
  request_from : (words : List ℕ) → request_at code words ≡ Ok line → HasForm code line (codes "request " ++ words)
  request_from words e =
      let a = then_from (formed (after 32 words)) _ line e in
      let b = then_from (formed (after 32 a.0)) _ line a.2 in
      let c = then_from (formed (small_at (before 32 words))) _ line b.2 in
      let n = then_from (formed (name_at (before 32 a.0))) _ line c.2 in
      let f = then_from (func_named code.funcs n.0) _ line n.2 in
      let v = then_from (value_at b.0) _ line f.2 in
      let ticket = small_from (before 32 words) c.0 (formed_from (small_at (before 32 words)) c.0 c.1) in
      let name = name_from (before 32 a.0) n.0 (formed_from (name_at (before 32 a.0)) n.0 n.1) in
      let more = split_at words a.0 (formed_from (after 32 words) a.0 a.1) in
      let last = split_at a.0 b.0 (formed_from (after 32 a.0) b.0 b.1) in
      subst (λ l. HasForm code l (codes "request " ++ words)) (same_ok (Request c.0 f.0 v.0) line v.2)
      (n.0, b.0, ticket.0, record { word = name.0; func_is = f.1 }, v.1, ap (λ t. codes "request " ++ t) (more ∙ ap₂ (λ x y. x ++ 32 ∷ y) (sym ticket.1) (last ∙ ap (λ x. x ++ 32 ∷ b.0) name.1)))

  restart_from : (words : List ℕ) → restart_at code words ≡ Ok line → HasForm code line (codes "restart " ++ words)
  restart_from words e =
      let a = then_from (formed (after 32 words)) _ line e in
      let n = then_from (formed (name_at a.0)) _ line a.2 in
      let i = then_from (formed (id_at (before 32 words))) _ line n.2 in
      let f = then_from (func_named code.funcs n.0) _ line i.2 in
      let name = name_from a.0 n.0 (formed_from (name_at a.0) n.0 n.1) in
      let id = formed_from (id_at (before 32 words)) i.0 i.1 in
      let more = split_at words a.0 (formed_from (after 32 words) a.0 a.1) in
      subst (λ l. HasForm code l (codes "restart " ++ words)) (same_ok (Restart i.0 f.0) line f.2)
      (n.0, parts_made (parts_of (before 32 words)) i.0 id, record { word = name.0; func_is = f.1 }, ap (λ t. codes "restart " ++ t) (more ∙ ap₂ (λ x y. x ++ 32 ∷ y) (sym (id_alone i.0 (before 32 words) id)) name.1))

  called_from : (word words : List ℕ) → called code word words ≡ Ok line → HasForm code line (word ++ 32 ∷ words)
  called_from word words e =
      if_name (Behind code line word words) word (codes "request") (request_at code words) _ (Ok line) (λ s f. subst (λ w. Behind code line w words) (sym s) (request_from words f))
      (if_name (Behind code line word words) word (codes "restart") (restart_at code words) _ (Ok line) (λ s f. subst (λ w. Behind code line w words) (sym s) (restart_from words f))
      (λ f. counted_from code line word words (formed_from (counted word words) line f))) e

  said_from : (word : List ℕ) (o : Option (List ℕ)) → said code word o ≡ Ok line → HasForm code line (word ++ rest_of o)
  said_from word None e = subst (HasForm code line) (sym (append-nil word)) (alone_from code line word (formed_from (alone word) line e))
  said_from word (Some words) e = called_from word words e

  line_from : (text : List ℕ) → line_at code text ≡ Ok line → HasForm code line text
  line_from text e = elim (is_blank text) as (λ t. is_blank text ≡ t → (if t then Ok Blank else said code (before 32 text) (after 32 text)) ≡ Ok line → HasForm code line text) [
    | true ↦ λ f g. subst (λ l. HasForm code l text) (same_ok Blank line g) f
    | false ↦ λ f g. subst (HasForm code line) (sym (split text)) (said_from (before 32 text) (after 32 text) g)
  ] refl e

-- ---- and what has one of the forms is read
-- a number or an id, and how often
times_to : (w : List ℕ) (times : ℕ) (rest : List ℕ) → after 32 w ≡ None → SaysTimes times rest → (before 32 (w ++ rest) ≡ w) × (times_at (after 32 (w ++ rest)) ≡ Some times)
times_to w times rest none (inl h) = subst (λ r. (before 32 (w ++ r) ≡ w) × (times_at (after 32 (w ++ r)) ≡ Some times)) (sym h.1)
    (subst (λ v. (before 32 v ≡ w) × (times_at (after 32 v) ≡ Some times)) (sym (append-nil w)) (whole 32 w none, ap times_at none ∙ ap Some (sym h.0)))
times_to w times rest none (inr h) =
    let p = parts 32 w (decimal times) none in
    subst (λ r. (before 32 (w ++ r) ≡ w) × (times_at (after 32 (w ++ r)) ≡ Some times)) (sym h.1) (p.front, ap times_at p.back ∙ times_read times h.0)

module _ (code : Deployment) where
  turn_to : (run times : ℕ) (rest : List ℕ) → run < 2 ^ 32 → SaysTimes times rest → turn_at (decimal run ++ rest) ≡ Some (Turn run times)
  turn_to run times rest small says =
      let p = times_to (decimal run) times rest (number_unspaced run (omega arith)) says in
      ap₂ (λ a b. option_and_then (λ r. option_and_then (λ t. Some (Turn r t)) b) a) (ap small_at p.0 ∙ small_read run small) p.1

  gc_to : (k times : ℕ) (rest : List ℕ) → k ≤ 7 → SaysTimes times rest → gc_at (decimal k ++ rest) ≡ Some (Gc k times)
  gc_to k times rest small says =
      let p = times_to (decimal k) times rest (number_unspaced k (omega arith)) says in
      ap₂ (λ a b. option_and_then (λ r. option_and_then (λ t. Some (Gc r t)) b) a) (ap collector_at p.0 ∙ collector_read k small) p.1

  ic_to : (times : ℕ) (rest : List ℕ) → SaysTimes times rest → line_at code (codes "ic" ++ rest) ≡ Ok (Ic times)
  ic_to times rest (inl h) = subst (λ r. line_at code (codes "ic" ++ r) ≡ Ok (Ic times)) (sym h.1) (ap (λ n. Ok (Ic n)) (sym h.0))
  ic_to times rest (inr h) = subst (λ r. line_at code (codes "ic" ++ r) ≡ Ok (Ic times)) (sym h.1) (rw (times_read times h.0) refl)

  request_to : (ticket func : ℕ) (args : Value) (name json : List ℕ) → ticket < 2 ^ 32 → Names code func name → value_at json ≡ Ok args → request_at code (decimal ticket ++ 32 ∷ (name ++ 32 ∷ json)) ≡ Ok (Request ticket func args)
  request_to ticket func args name json small n v =
      let word : name_at name ≡ Some name = ap (λ t. if t then Some name else None) n.word in
      let q = parts 32 name json (word_unspaced name n.word) in
      let p = number_parts ticket (name ++ 32 ∷ json) (omega arith) in
      rw p.back (rw q.back (rw p.front (rw q.front (rw (small_read ticket small) (rw word (rw n.func_is (rw v refl)))))))

  restart_to : (id : IntentId) (func : ℕ) (name : List ℕ) → IsId id → Names code func name → restart_at code (id_text id ++ 32 ∷ name) ≡ Ok (Restart id func)
  restart_to id func name h n =
      let word : name_at name ≡ Some name = ap (λ t. if t then Some name else None) n.word in
      let p = parts 32 (id_text id) name (id_unspaced id h) in
      rw p.back (rw p.front (rw word (rw (id_reads id h.some h.small h.steps h.few) (rw n.func_is refl))))

  line_to : (line : Line) (text : List ℕ) → HasForm code line text → line_at code text ≡ Ok line
  line_to Blank text h = ap (λ t. if t then Ok Blank else said code (before 32 text) (after 32 text)) h
  line_to Ticket text h = ap (line_at code) h
  line_to (Request ticket func args) text h = ap (line_at code) h.5 ∙ request_to ticket func args h.0 h.1 h.2 h.3 h.4
  line_to (Turn run times) text h = ap (line_at code) h.3 ∙ ap formed (turn_to run times h.0 h.1 h.2)
  line_to (Lost run) text h = ap (line_at code) h.1 ∙ rw (small_read run h.0) refl
  line_to (Crash run) text h = ap (line_at code) h.1 ∙ rw (small_read run h.0) refl
  line_to (Restart id func) text h = ap (line_at code) h.3 ∙ restart_to id func h.0 h.1 h.2
  line_to (Ic times) text h = ap (line_at code) h.2 ∙ ic_to times h.0 h.1
  line_to (Gc k times) text h = ap (line_at code) h.3 ∙ ap formed (gc_to k times h.0 h.1 h.2)
  line_to (Sweep k budget) text h = ap (line_at code) h.2 ∙ ap formed (sweep_read k budget h.0 h.1)
  line_to (Settle budget) text h = ap (line_at code) h.1 ∙ rw (budget_read budget h.0) refl
  line_to (Tick by) text h = ap (line_at code) h.1 ∙ rw (numeral_of 4294967297 by (omega arith) h.0) refl
  line_to Halt text h = ap (line_at code) h
  line_to (Reply ticket) text h = ap (line_at code) h.1 ∙ rw (small_read ticket h.0) refl
  line_to Rows text h = ap (line_at code) h
  line_to Tables text h = ap (line_at code) h
  line_to Book text h = ap (line_at code) h

pub lines_have_forms : LinesHaveForms
lines_have_forms code line text = record { formed = line_from code line text; read = line_to code line text }
