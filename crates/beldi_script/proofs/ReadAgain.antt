-- A line that was written is read as it was.
use Rattle.std.specs.Prelude.{nat_lt, decimal, option_and_then, option_map}
use Rattle.std.{specs.List.position, specs.Cmp.Lexicographic.same_text, specs.Cmp.Lexicographic.other_text, proofs.lemmas.Bool.Decides.nat_tests, proofs.lemmas.Bool.and_parts, proofs.lemmas.List.Sums.position_or_len_is, proofs.lemmas.Option.get_or_from_slice_get, proofs.lemmas.Option.slice_get-get_or, proofs.lemmas.Option.slice_get_cases}
use Rattle.std.proofs.Common.{◌≡◌, ℕ, zero, suc, ◌+◌, ◌-◌, ◌^◌, ◌<◌, ◌≤◌, ◌==◌, true, false, cond, IsTrue, List, [], ◌∷◌, ◌++◌, length, get_or, slice_get, Some, None, Ok, refl, ap, sym, ◌∙◌, subst, inl, inr, arith, if◌then◌else◌, lt-ltb}
use Rattle.beldi_value.{specs.ByteCut.after, specs.Injective.value_back, specs.Json.text_of, specs.ValueText.id_text, specs.Value.datum_of, specs.declared.id.IntentId.IntentId, specs.declared.value.Value.Value, proofs.IdTexts.reads, proofs.Ints.numeral_of, proofs.ReadAgain.read_again}
use Rattle.beldi_tree.specs.{declared.deployment.Deployment.Deployment, declared.deployment.Func.Func, Bindings.is_name, Names.name_or, Names.func_text}
use Rattle.beldi_script.specs.declared.line.Line.TheVariants.{Blank, Ticket, Request, Turn, Lost, Crash, Restart, Ic, Gc, Sweep, Settle, Tick, Halt, Reply, Rows, Tables, Book}
use Rattle.beldi_script.specs.ScriptLine.{formed, number_or, func_named, value_or, value_at, request_at, restart_at, line_at}
use Rattle.beldi_script.specs.ScriptText.{line_text, AreNamed, IsFunc, IsId, IsValue, IsTimes, IsBudget, IsProper}
use Rattle.beldi_script.specs.ScriptWords.{is_word, name_at, small_at, collector_at, count_at, budget_at, turn_at, gc_at, sweep_at}
use Rattle.beldi_script.{specs.declared.line.Line.Line, proofs.Parted.Parts, proofs.Parted.parts, proofs.Parted.no_space, proofs.Parted.number_unspaced, proofs.Parted.id_unspaced}

-- ---- numbers
pub small_read : (n : ℕ) → n < 2 ^ 32 → small_at (decimal n) ≡ Some n
small_read n h = numeral_of (2 ^ 32 - 1) n (omega arith) (omega arith)

pub collector_read : (k : ℕ) → k ≤ 7 → collector_at (decimal k) ≡ Some k
collector_read k h = numeral_of 7 k (omega arith) h

count_read : (most n : ℕ) → most < 2 ^ 64 → 0 < n → n ≤ most → count_at most (decimal n) ≡ Some n
count_read most n fits some small =
    let other : (n == 0) ≡ false = grind (arith, nat_tests) in
    ap (λ o. option_and_then (λ m. if m == 0 then None else Some m) o) (numeral_of most n (omega arith) small) ∙ ap (λ t. if t then None else Some n) other

pub times_read : (n : ℕ) → IsTimes n → count_at 1000 (decimal n) ≡ Some n
times_read n h = count_read 1000 n (omega arith) h.0 h.1

pub budget_read : (n : ℕ) → IsBudget n → budget_at (decimal n) ≡ Some n
budget_read n h = count_read 4000000000 n (omega arith) h.0 h.1

pub number_parts : (n : ℕ) (rest : List ℕ) → n < 2 ^ 64 → Parts 32 (decimal n) rest
number_parts n rest h = parts 32 (decimal n) rest (number_unspaced n h)

-- a number, and how often
turn_read : (run times : ℕ) → run < 2 ^ 32 → IsTimes times → turn_at (decimal run ++ 32 ∷ decimal times) ≡ Some (Turn run times)
turn_read run times h t =
    let p = number_parts run (decimal times) (omega arith) in
    rw p.front (rw p.back (rw (small_read run h) (rw (times_read times t) refl)))

gc_read : (k times : ℕ) → k ≤ 7 → IsTimes times → gc_at (decimal k ++ 32 ∷ decimal times) ≡ Some (Gc k times)
gc_read k times h t =
    let p = number_parts k (decimal times) (omega arith) in
    rw p.front (rw p.back (rw (collector_read k h) (rw (times_read times t) refl)))

pub sweep_read : (k budget : ℕ) → k ≤ 7 → IsBudget budget → sweep_at (decimal k ++ 32 ∷ decimal budget) ≡ Some (Sweep k budget)
sweep_read k budget h b =
    let p = number_parts k (decimal budget) (omega arith) in
    rw p.back (rw p.front (rw (collector_read k h) (rw (budget_read budget b) refl)))

-- ---- functions
own_name : (name : List ℕ) → is_name name name ≡ true
own_name name = elim (is_name name name) as (λ t. is_name name name ≡ t → is_name name name ≡ true) [
  | true ↦ λ e. e
  | false ↦ λ e. absurd (other_text name name (sym e) refl)
] refl

inside : (fs : List Func) (i : ℕ) (f : Func) → slice_get fs i ≡ Some f → i < length fs
inside fs i f h = elim ((slice_get_cases fs i).1) [ inl p ↦ p.1 | inr p ↦ absurd (cc (p.1)) ]

-- another function before it has another name
other_name : (code : Deployment) (i k : ℕ) (f : Func) → AreNamed code → slice_get code.funcs i ≡ Some f → k < i → is_name (get_or code.funcs k f).name f.name ≡ false
other_name code i k f named h less =
    let g = get_or code.funcs k f in
    let there : slice_get code.funcs k ≡ Some g = slice_get-get_or code.funcs k f (omega (arith, inside code.funcs i f h)) in
    elim (is_name g.name f.name) as (λ t. is_name g.name f.name ≡ t → is_name g.name f.name ≡ false) [
      | true ↦ λ e. absurd (let same = named.differ (suc k) (suc i) g f there h (same_text g.name f.name (sym e)) in omega arith)
      | false ↦ λ e. e
    ] refl

place_of : (code : Deployment) (i : ℕ) (f : Func) → AreNamed code → slice_get code.funcs i ≡ Some f → position (λ g. is_name g.name f.name) code.funcs ≡ Some i
place_of code i f named h =
    let fs = code.funcs in
    let less = inside fs i f h in
    let place = position_or_len_is (λ g. is_name g.name f.name) fs i f (omega arith) (λ k. other_name code i k f named h) (λ l. ap (λ g. is_name g.name f.name) (get_or_from_slice_get fs i f f h) ∙ own_name f.name) in
    ap (λ k. cond (nat_lt k (length fs)) (Some k) None) place ∙ ap (λ t. cond t (Some i) None) (lt-ltb i (length fs) less)

-- a name is a word, and finds the function of this number
record Named (code : Deployment) (n : ℕ) (name : List ℕ) : Type 0 where
  word : name_at name ≡ Some name
  unspaced : after 32 name ≡ None
  found : func_named code.funcs name ≡ Ok n

pub word_unspaced : (w : List ℕ) → IsTrue (is_word w) → after 32 w ≡ None
word_unspaced [] h = refl
word_unspaced (b ∷ bs) h = let p = and_parts _ _ h in no_space (b ∷ bs) p.0

named : (code : Deployment) (n : ℕ) → AreNamed code → IsFunc code n → Named code n (func_text code n)
named code zero names h = absurd (cc (h.1.1))
named code (suc i) names h =
    let f = h.1.0 in
    let there : slice_get code.funcs i ≡ Some f = h.1.1 in
    let text : func_text code (suc i) ≡ f.name = ap (name_or (suc i)) there in
    let is : IsTrue (is_word f.name) = names.words (suc i) f there in
    let number : i + 1 ≡ suc i = omega arith in
    subst (Named code (suc i)) (sym text) (record {
      word = ap (λ t. if t then Some f.name else None) is;
      unspaced = word_unspaced f.name is;
      found = ap (λ o. number_or f.name (option_map (λ k. k + 1) o)) (place_of code i f names there) ∙ ap Ok number;
    })

-- ---- values, and the two lines that name a function
value_read : (v : Value) → IsValue (datum_of v) → value_at (text_of (datum_of v)) ≡ Ok v
value_read v h = ap value_or (read_again (datum_of v) h.0 h.1) ∙ ap Ok (value_back v)

request_read : (code : Deployment) (ticket func : ℕ) (args : Value) → AreNamed code → ticket < 2 ^ 32 → IsFunc code func → IsValue (datum_of args)
    → request_at code (decimal ticket ++ 32 ∷ (func_text code func ++ 32 ∷ text_of (datum_of args))) ≡ Ok (Request ticket func args)
request_read code ticket func args names h f v =
    let json = text_of (datum_of args) in
    let n = named code func names f in
    let q = parts 32 (func_text code func) json n.unspaced in
    let p = number_parts ticket (func_text code func ++ 32 ∷ json) (omega arith) in
    rw p.back (rw q.back (rw p.front (rw q.front (rw (small_read ticket h) (rw n.word (rw n.found (rw (value_read args v) refl)))))))

restart_read : (code : Deployment) (id : IntentId) (func : ℕ) → AreNamed code → IsId id → IsFunc code func
    → restart_at code (id_text id ++ 32 ∷ func_text code func) ≡ Ok (Restart id func)
restart_read code id func names h f =
    let n = named code func names f in
    let p = parts 32 (id_text id) (func_text code func) (id_unspaced id h) in
    rw p.back (rw p.front (rw n.word (rw (reads id h.some h.small h.steps h.few) (rw n.found refl))))

-- ---- all lines
pub line_read : (code : Deployment) (line : Line) → AreNamed code → IsProper code line → line_at code (line_text code line) ≡ Ok line
line_read code Blank names h = refl
line_read code Ticket names h = refl
line_read code (Request ticket func args) names h = request_read code ticket func args names h.0 h.1 h.2
line_read code (Turn run times) names h = ap formed (turn_read run times h.0 h.1)
line_read code (Lost run) names h = rw (small_read run h) refl
line_read code (Crash run) names h = rw (small_read run h) refl
line_read code (Restart id func) names h = restart_read code id func names h.0 h.1
line_read code (Ic times) names h = rw (times_read times h) refl
line_read code (Gc k times) names h = ap formed (gc_read k times h.0 h.1)
line_read code (Sweep k budget) names h = ap formed (sweep_read k budget h.0 h.1)
line_read code (Settle budget) names h = rw (budget_read budget h) refl
line_read code (Tick by) names h = rw (numeral_of 4294967297 by (omega arith) h) refl
line_read code Halt names h = refl
line_read code (Reply ticket) names h = rw (small_read ticket h) refl
line_read code Rows names h = refl
line_read code Tables names h = refl
line_read code Book names h = refl
