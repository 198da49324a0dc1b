-- After generated work the accounts of the bank are balanced.
use Rattle.std.specs.Prelude.{codes, if◌then◌else◌, option_and_then, ◌==◌, ◌||◌, ◌<◌}
use Rattle.std.specs.Option.{option_map_or}
use Rattle.std.specs.List.{AllByRecursion}
use Rattle.std.specs.Str.{bytes_eq}
use Rattle.beldi_value.{proofs.Ints.numeral_within, specs.Number.numeral_at}
use Rattle.beldi_plain.specs.{Legal.run_of, Plain.PlainState}
use Rattle.beldi_command.specs.CommandLine.{after_port, after_requests, command_of, gen_by, gen_with, named_with, option_alone, option_first, plainly, serve_by, serve_of, serve_with}
use Rattle.beldi_script.proofs.ScriptLines.{cut_some}
use Rattle.beldi_generator.specs.Summary.{totals_text}
use Rattle.beldi_bank.{proofs.BankRuns.transfers_keep, specs.Bank.IsTransfer, specs.Bank.bank_code, specs.BankLaws.AreTransfers, specs.BankLaws.Balanced}
use Rattle.beldi_bank_lines.proofs.Totals.{are_listed}
use Rattle.beldi_bank_text.{proofs.Actions.generated_is_the_bank, proofs.Actions.generated_is_work, specs.BankText.AreWork, specs.BankText.IsWork, specs.BankText.bank_source}
use Rattle.beldi_program.specs.{PlainRun.alone, Balances.IsBalanced, Balances.ToldBalanced, Balances.totals_in, Headline.Ran}
use Rattle.beldi_program.proofs.{Asked.AskSo, Asked.AsksSo, Asked.BoundSo, Asked.IsQuiet, Asked.asked_then, Asked.bound_of_actions, Asked.listings, Ends.same_end, Flat.names_flat, Listed.ends_told, Skipped.last_text}
use Rattle.beldi_program.proofs.Names.map
use Rattle.beldi_program.proofs.Names.{Action, Bool, Carry, Check, Command, Ended, Ends, Entry, Event, Gen, GeneratedEnds, HasEnded, IsReportSo, List, None, Numbered, Option, Rows, Run, Serve, ServingEnds, Session, Settle, SinkState, Some, SourceEnds, SummedUp, TableState, TablesAre, Observed, Value, Whole, [], actions_in, ap, arith, bound_in, false, generated, inl, inr, kept, kept_faults, last_book, length, lines_of, new_sink, refl, responses_in, same_Some, script_of, source_at, status_of, subst, sym, true, ℕ, ◌++◌, ◌-◌, ◌^◌, ◌∙◌, ◌∷◌, ◌≡◌, ◌≤◌}

-- a request for a transfer
abbrev pub ForTransfer : ℕ × Value → Type 0
ForTransfer q = (q.0 ≡ 1) × IsTransfer q.1

transfers_in : (bs : List (ℕ × (ℕ × Value))) → BoundSo ForTransfer bs → AreTransfers bs
transfers_in [] h = tt
transfers_in (b ∷ bs) h = (h.0.0, h.0.1, transfers_in bs h.1)

-- ---- a session of transfers
asks_transfer : (a : Action) → IsWork a → AsksSo ForTransfer a × IsQuiet a
asks_transfer (Carry (Event.Request t f v)) h = (h, tt)
asks_transfer (Carry e) h = (tt, tt)
asks_transfer (Settle budget s) h = (tt, tt)
asks_transfer a h = absurd h

ask_transfers : (front : List Action) → AreWork front → AskSo ForTransfer front × AllByRecursion IsQuiet front
ask_transfers [] h = (tt, tt)
ask_transfers (a ∷ front) h =
    let one = asks_transfer a h.0 in
    let others = ask_transfers front h.1 in
    ((one.0, others.0), (one.1, others.1))

-- what is told of the items, by the run of the book at the end
totals_told : (book : List Entry) (p : PlainState) → run_of bank_code book ≡ Some p → Balanced p → (tables : Option (List ℕ)) (text : List ℕ) → IsReportSo bank_code alone None book None (TablesAre tables) → IsBalanced (totals_text (lines_of (last_text tables text)))
totals_told book p run even None text items = inl (ap totals_text (cut_some (codes "dropped\n" ++ (codes "== book\n" ++ text)) (codes "== book\n" ++ text) refl))
totals_told book p run even (Some listing) text items =
    let l = are_listed p even in
    inr (length l.0, ap (λ z. totals_text (lines_of (z ++ (codes "== book\n" ++ text)))) (items p run) ∙ l.1.totals text)

module _ (lines : List Numbered) (front : List Action) (are : actions_in bank_code lines ≡ front ++ listings) (work : AreWork front) where
  session_balanced : (n : Rows) (w : List ℕ) (s : Session bank_code (actions_in bank_code lines) [] map.empty n w []) → IsBalanced (totals_in w)
  session_balanced n w s =
      let plain = s.plain refl in
      let book = last_book [] s.responses in
      let k = ask_transfers front work in
      let e = ends_told bank_code lines map.empty n w s front are (names_flat bank_code (refl, tt)) k.1 in
      let asked = subst (AskSo ForTransfer) (sym are) (asked_then ForTransfer front listings k.0 (tt, (tt, tt))) in
      let bound = bound_of_actions ForTransfer (responses_in s.responses) (actions_in bank_code lines) [] s.actions_are asked in
      let starts = subst AreTransfers (sym plain.bound) (transfers_in (bound_in (responses_in s.responses)) bound) in
      let even = transfers_keep book plain.legal.run starts plain.legal.legal in
      subst (λ z. IsBalanced (totals_text z)) (sym e.totals) (totals_told book plain.legal.run plain.legal.legal even e.tables e.book (e.tells refl))

  ran_whole : (a b : Option Rows) (f g : ℕ) (w : List ℕ) → a ≡ Some map.empty → Observed a b (λ m n. Whole bank_code lines m n f g w) → IsBalanced (totals_in w)
  ran_whole a b f g w none h = by b (subst (λ z. Observed z b (λ m n. Whole bank_code lines m n f g w)) none h)
    where
      by : (b : Option Rows) → Observed (Some map.empty) b (λ m n. Whole bank_code lines m n f g w) → IsBalanced (totals_in w)
      by None h = absurd h
      by (Some n) h = session_balanced n w h.session

  ran_balanced : {T : Type 0} (state : T → TableState) (k : SinkState) (t t' : T) → Ran kept kept_faults state (Whole bank_code lines) (new_sink [] (2 ^ 64 - 1)) k t t' → (state t).rows ≡ Some map.empty → IsBalanced (totals_in k.bytes)
  ran_balanced state k t t' ran none = subst (λ z. IsBalanced (totals_in z)) (sym ran.1) (ran_whole (state t).rows (state t').rows (state t).faults (state t').faults ran.0 none ran.2)

-- ---- generated work
module _ {K T : Type 0} (held : K → Option (List ℕ)) (faults : K → ℕ) (state : T → TableState) (k k' : K) (t t' : T) (seed n : ℕ) (few : n < 2 ^ 31) (none : (state t).rows ≡ Some map.empty) where
  summed_up : (sink : SinkState) (e : Ended) → SourceEnds kept kept_faults state (generated seed n) (source_at (generated seed n)) (new_sink [] (2 ^ 64 - 1)) sink t t' e → SummedUp held faults n sink.bytes e k k' Ended.Done → ToldBalanced n (held k) (held k')
  summed_up sink Ended.Done session told =
      let ended = subst (λ o. SourceEnds kept kept_faults state (generated seed n) o (new_sink [] (2 ^ 64 - 1)) sink t t' Ended.Done) (generated_is_the_bank seed n) session in
      let work = generated_is_work seed n few ended.0 in
      (sink.bytes, told.1, ran_balanced (script_of (generated seed n) bank_source) work.0 work.1 work.2 state sink t t' ended.1 none)
  summed_up sink Ended.OutOfMemory session told = let x = told.0 in cc
  summed_up sink Ended.Usage session told = let x = told.0 in cc
  summed_up sink Ended.SourceFault session told = let x = told.0 in cc
  summed_up sink Ended.SinkFault session told = let x = told.0 in cc
  summed_up sink Ended.Refused session told = let x = told.0 in cc
  summed_up sink Ended.LinkRefused session told = let x = told.0 in cc
  summed_up sink Ended.TooLong session told = let x = told.0 in cc
  summed_up sink Ended.TableFault session told = let x = told.0 in cc

  generated_balanced : GeneratedEnds held faults state seed n k k' t t' Ended.Done → ToldBalanced n (held k) (held k')
  generated_balanced (inl x) = let y = x.0 in cc
  generated_balanced (inr g) = summed_up g.sink g.ended g.session g.told

-- ---- how many requests the words ask for
gen_within : (o p : Option ℕ) (seed n : ℕ) → gen_by o p ≡ Some (Gen seed n) → p ≡ Some n
gen_within (Some s) (Some r) seed n h = by (r == 0) h
  where
    by : (zero : Bool) → (if zero then None else Some (Gen s r)) ≡ Some (Gen seed n) → Some r ≡ Some n
    by true h = cc
    by false h = cc
gen_within o p seed n h = cc

gen_few : (rest : List (List ℕ)) (seed n : ℕ) → gen_with rest ≡ Some (Gen seed n) → n ≤ 1000
gen_few [] seed n h = cc
gen_few (a ∷ []) seed n h = cc
gen_few (a ∷ b ∷ []) seed n h = numeral_within 1000 n b (gen_within (numeral_at 2147483647 a) (numeral_at 1000 b) seed n h)
gen_few (a ∷ b ∷ c ∷ more) seed n h = cc

-- other commands are no generated work
module _ (seed n : ℕ) where
  abbrev NoWork : Option Command → Type 0
  NoWork o = o ≡ Some (Gen seed n) → ⊥

  then_other : {A : Type 0} (f : A → Option Command) → ((a : A) → NoWork (f a)) → (o : Option A) → NoWork (option_and_then f o)
  then_other f other None h = cc
  then_other f other (Some a) h = other a h

  or_other : {A : Type 0} (f : A → Option Command) → ((a : A) → NoWork (f a)) → (o : Option A) (d : Option Command) → NoWork d → NoWork (option_map_or f o d)
  or_other f other None d g = g
  or_other f other (Some a) d g = other a

  serve_other : (o p : Option ℕ) → NoWork (serve_by o p)
  serve_other (Some port) (Some requests) h = by (port == 0 || requests == 0) h
    where
      by : (none : Bool) → NoWork (if none then None else Some (Serve port requests))
      by true h = cc
      by false h = cc
  serve_other (Some port) None h = cc
  serve_other None p h = cc

  words_other : (rest : List (List ℕ)) → NoWork (serve_with rest)
  words_other rest = or_other after_port (λ p. then_other (λ requests. serve_of p.0 requests) (λ requests. serve_other (numeral_at 65535 p.0) (numeral_at 1000000 requests)) (option_alone (codes "--requests") p.1)) (option_first (codes "--port") rest)
      (option_and_then after_requests (option_first (codes "--requests") rest))
      (then_other after_requests (λ p. then_other (λ port. serve_of port p.0) (λ port. serve_other (numeral_at 65535 port) (numeral_at 1000000 p.0)) (option_alone (codes "--port") p.1)) (option_first (codes "--requests") rest))

  plain_other : (c : Command) → (c ≡ Gen seed n → ⊥) → (rest : List (List ℕ)) → NoWork (plainly c rest)
  plain_other c other [] h = other (same_Some c (Gen seed n) h)
  plain_other c other (word ∷ rest) h = cc

  named_other : (name : List ℕ) (rest : List (List ℕ)) → NoWork (named_with name rest)
  named_other name rest h = by (bytes_eq name (codes "run")) (bytes_eq name (codes "check")) (bytes_eq name (codes "serve")) h
    where
      by : (run check serve : Bool) → NoWork (if run then plainly Run rest else if check then plainly Check rest else if serve then serve_with rest else None)
      by true check serve h = plain_other Run (λ h. cc) rest h
      by false true serve h = plain_other Check (λ h. cc) rest h
      by false false true h = words_other rest h
      by false false false h = cc

few_requests : (words : List (List ℕ)) (seed n : ℕ) → command_of words ≡ Some (Gen seed n) → n ≤ 1000
few_requests [] seed n h = cc
few_requests (name ∷ rest) seed n h = by (bytes_eq name (codes "gen")) h
  where
    by : (gen : Bool) → (if gen then gen_with rest else named_with name rest) ≡ Some (Gen seed n) → n ≤ 1000
    by true h = gen_few rest seed n h
    by false h = absurd (named_other seed n name rest h)

-- ---- the program
pub balanced_at : {S K T : Type 0} {left : S → Option (List ℕ)} {source_faults : S → ℕ} {held : K → Option (List ℕ)} {faults : K → ℕ} {state : T → TableState} {serving : ServingEnds K T} (words : List (List ℕ)) {s s' : S} {k k' : K} {t t' : T} {e : Ended}
    → HasEnded left source_faults held faults state serving (command_of words) s s' k k' t t' e → (status : ℕ) → status ≡ status_of e
    → (seed n : ℕ) → command_of words ≡ Some (Gen seed n) → status ≡ 0 → (state t).rows ≡ Some map.empty → ToldBalanced n (held k) (held k')
balanced_at {left = left} {source_faults = source_faults} {held = held} {faults = faults} {state = state} {serving = serving} words {s = s} {s' = s'} {k = k} {k' = k'} {t = t} {t' = t'} {e = e} x status is seed n asked done none =
    let some = few_requests words seed n asked in
    let ended = subst (λ c. Ends left source_faults held faults state serving c s s' k k' t t' Ended.Done) asked (subst (Ends left source_faults held faults state serving (command_of words) s s' k k' t t') (same_end e Ended.Done (sym is ∙ done)) x.ends) in
    generated_balanced held faults state k k' t t' seed n (omega arith) none ended.1
