-- A transfer, answer by answer: what it asks for, what each answer leads to, and the items at its end.
use Rattle.std.proofs.Common.{◌≡◌, ℕ, ◌+ℤ◌, ◌-ℤ◌, Bool, true, false, List, [], ◌∷◌, ◌++◌, None, Some, refl, ap, ap₂, sym, subst, ◌∙◌, inl, inr}
use Rattle.std.specs.FinMap as map
use Rattle.std.specs.FinMap.{FinMap}
use Rattle.beldi_value.specs.{declared.value.Value.Value, declared.outcome.Cause.Cause}
use Rattle.beldi_tree.specs.{Bindings.Bindings, Bindings.no_variables, StatementCommand.Commands, StatementCommand.no_commands, StatementCommand.command, StatementCommand.read, StatementCommand.write}
use Rattle.beldi_lang.specs.{declared.effect.Effect.Effect, declared.effect.Answer.Answer, Wants.wants}
use Rattle.beldi_plain.specs.{Item.item_cmp, Operation.set_item}
use Rattle.beldi_bank.specs.{Bank.IsTransfer, Bank.account, Bank.args, Bank.bank_code, Bank.begins, Bank.less, Bank.more, Bank.from, Bank.source, Bank.target, Bank.to, BankLaws.AreBalanced, BankLaws.IsWhole}
use Rattle.beldi_bank.proofs.{Values.less_is, Values.more_is, Values.source_is, Values.target_is, Balance.balanced, Balance.has, Balance.item, Balance.money}
use Rattle.beldi_bank.proofs.Effects.{Begins, Begun, IsMoney, Reads, Returns, Shows, Writes, asks_by, balance, begins_leads, block, ends_by, first, local, opened_so, outer, over_by, read_leads, set_here, set_other, write_leads}

-- what a transfer wants after these answers
abbrev pub wanted : Value → List Answer → Effect
wanted v given = wants bank_code 1 v false given

-- the end of its transaction, after which it returns
abbrev pub EndsAt : Value → Bool → List Answer → Type 0
EndsAt v b given = (wanted v given ≡ Effect.End b) × ((a : Answer) → Returns (wanted v (given ++ a ∷ [])))

-- where the effect is aborted, that is the end
abbrev pub Falls : Value → List Answer → Type 0
Falls v given = (c : Cause) → EndsAt v false (given ++ Answer.Aborted c ∷ [])

-- what follows from these items and after these answers: the end, with balanced items where it commits; or a read or a write, and what
-- follows from its answer
pub data Flow (v : Value) : FinMap item_cmp Value → List Answer → Type 0 where
  over : (m : FinMap item_cmp Value) (given : List Answer) (b : Bool) → EndsAt v b given → (b ≡ true → AreBalanced m) → Flow v m given
  reads : (m : FinMap item_cmp Value) (given : List Answer) (k : List ℕ) → wanted v given ≡ Effect.Read 0 k → Falls v given → Flow v m (given ++ Answer.Value (has m k) ∷ []) → Flow v m given
  writes : (m : FinMap item_cmp Value) (given : List Answer) (k : List ℕ) (w : Value) → wanted v given ≡ Effect.Write 0 k w → Falls v given → Flow v (set_item m (item k) w) (given ++ Answer.Done ∷ []) → Flow v m given

-- ---- the statements of a transfer, from the last one on
abbrev writes_last : Commands
writes_last = command (write 4 account to more) no_commands

abbrev writes_first : Commands
writes_first = command (write 4 account from less) writes_last

abbrev begins_target : Commands
begins_target = command (begins 3 target) writes_first

abbrev reads_target : Commands
reads_target = command (read 3 target account to) begins_target

abbrev begins_source : Commands
begins_source = command (begins 2 source) reads_target

module _ (v : Value) (t : IsTransfer v) (m : FinMap item_cmp Value) (even : AreBalanced m) where
  -- it failed
  fails : (n : FinMap item_cmp Value) (given : List Answer) → EndsAt v false given → Flow v n given
  fails n given e = Flow.over n given false e (λ c. cc)

  module _ (a b : Value) (found : a ≡ has m t.source) (also : b ≡ has m t.target) where
    -- the items that it leaves
    all_even : (k l : List ℕ) (w x : Value) → k ≡ t.source → (w ≡ Value.Int (balance a -ℤ t.amount)) × IsWhole w → l ≡ t.target → (x ≡ Value.Int (balance b +ℤ t.amount)) × IsWhole x → AreBalanced (set_item (set_item m (item k) w) (item l) x)
    all_even k l w x at taken to_there put = subst AreBalanced (sym same) (balanced m t.source t.target t.amount even t.apart (subst IsWhole less_so taken.1) (subst IsWhole more_so put.1))
      where
        less_so : w ≡ Value.Int (balance (has m t.source) -ℤ t.amount)
        less_so = taken.0 ∙ ap (λ u. Value.Int (balance u -ℤ t.amount)) found

        more_so : x ≡ Value.Int (balance (has m t.target) +ℤ t.amount)
        more_so = put.0 ∙ ap (λ u. Value.Int (balance u +ℤ t.amount)) also

        same : set_item (set_item m (item k) w) (item l) x ≡ set_item (set_item m (item t.source) (Value.Int (balance (has m t.source) -ℤ t.amount))) (item t.target) (Value.Int (balance (has m t.target) +ℤ t.amount))
        same = ap₂ (λ n y. set_item n (item l) y) (ap₂ (λ j y. set_item m (item j) y) at less_so) more_so ∙ ap (λ j. set_item (set_item m (item t.source) (Value.Int (balance (has m t.source) -ℤ t.amount))) (item j) (Value.Int (balance (has m t.target) +ℤ t.amount))) to_there

    -- after both writes, after the first one, and after both reads
    after_writes : (vs : Bindings) (n : FinMap item_cmp Value) → AreBalanced n → Shows v (λ rest. wanted v (Answer.Done ∷ Answer.Value a ∷ Answer.Value b ∷ Answer.Done ∷ Answer.Done ∷ rest)) (block no_commands (local vs 5))
        → Flow v n (Answer.Done ∷ Answer.Value a ∷ Answer.Value b ∷ Answer.Done ∷ Answer.Done ∷ [])
    after_writes vs n h shows = Flow.over n _ true (ends_by v _ vs 5 shows) (λ c. h)

    after_write : (vs : Bindings) (n : FinMap item_cmp Value) → map.get vs args ≡ Some v → map.get vs target ≡ Some (Value.Int (balance b))
        → ((l : List ℕ) (x : Value) → l ≡ t.target → (x ≡ Value.Int (balance b +ℤ t.amount)) × IsWhole x → AreBalanced (set_item n (item l) x))
        → Shows v (λ rest. wanted v (Answer.Done ∷ Answer.Value a ∷ Answer.Value b ∷ Answer.Done ∷ rest)) (block writes_last (local vs 4))
        → Flow v n (Answer.Done ∷ Answer.Value a ∷ Answer.Value b ∷ Answer.Done ∷ [])
    after_write vs n is has_b h shows = by_write (write_leads 4 to more no_commands vs 4 refl)
      where
        by_write : Writes 4 to more no_commands vs 4 refl → Flow v n (Answer.Done ∷ Answer.Value a ∷ Answer.Value b ∷ Answer.Done ∷ [])
        by_write (inl f) = fails n _ (over_by v _ _ shows f)
        by_write (inr w) =
            let e = asks_by v _ _ (Effect.Write 0 w.0 w.1) None no_commands vs 5 shows w.4 in
            Flow.writes n _ w.0 w.1 e.0 e.1 (after_writes vs (set_item n (item w.0) w.1) (h w.0 w.1 (target_is vs v t is w.0 w.2) (more_is vs v t is (balance b) w.1 has_b w.3)) (λ rest. shows (Answer.Done ∷ rest) ∙ ap (outer v) (w.4 (Answer.Done ∷ rest))))

    after_reads : (vs : Bindings) → map.get vs args ≡ Some v → map.get vs source ≡ Some (Value.Int (balance a)) → map.get vs target ≡ Some b
        → Shows v (λ rest. wanted v (Answer.Done ∷ Answer.Value a ∷ Answer.Value b ∷ rest)) (block begins_target (local vs 3))
        → Flow v m (Answer.Done ∷ Answer.Value a ∷ Answer.Value b ∷ [])
    after_reads vs is has_a has_b shows = by_begin (begins_leads 3 target writes_first vs 3 b has_b (subst IsMoney (sym also) (money m even t.target)))
      where
        by_write : (ws : Bindings) → Begun target b vs ws → Shows v (λ rest. wanted v (Answer.Done ∷ Answer.Value a ∷ Answer.Value b ∷ rest)) (block writes_first (local ws 3)) → Writes 4 from less writes_last ws 3 refl
            → Flow v m (Answer.Done ∷ Answer.Value a ∷ Answer.Value b ∷ [])
        by_write ws begun shows (inl f) = fails m _ (over_by v _ _ shows f)
        by_write ws begun shows (inr w) =
            let e = asks_by v _ _ (Effect.Write 0 w.0 w.1) None writes_last ws 4 shows w.4 in
            let there : map.get ws args ≡ Some v = begun.others args refl ∙ is in
            let taken = less_is ws v t there (balance a) w.1 (begun.others source refl ∙ has_a) w.3 in
            Flow.writes m _ w.0 w.1 e.0 e.1 (after_write ws (set_item m (item w.0) w.1) there begun.here (λ l x. all_even w.0 l w.1 x (source_is ws v t there w.0 w.2) taken) (λ rest. shows (Answer.Done ∷ rest) ∙ ap (outer v) (w.4 (Answer.Done ∷ rest))))

        by_begin : Begins 3 target writes_first vs 3 b has_b b → Flow v m (Answer.Done ∷ Answer.Value a ∷ Answer.Value b ∷ [])
        by_begin (inl f) = fails m _ (over_by v _ _ shows f)
        by_begin (inr w) = let on : Shows v _ (block writes_first (local w.0 3)) = λ rest. shows rest ∙ ap (outer v) (w.2 rest) in by_write w.0 w.1 on (write_leads 4 from less writes_last w.0 3 refl)

  -- after the first read
  after_read : (a : Value) → a ≡ has m t.source → (vs : Bindings) → map.get vs args ≡ Some v → map.get vs source ≡ Some a
      → Shows v (λ rest. wanted v (Answer.Done ∷ Answer.Value a ∷ rest)) (block begins_source (local vs 2)) → Flow v m (Answer.Done ∷ Answer.Value a ∷ [])
  after_read a found vs is has_a shows = by_begin (begins_leads 2 source reads_target vs 2 a has_a (subst IsMoney (sym found) (money m even t.source)))
    where
      by_read : (ws : Bindings) → Begun source a vs ws → Shows v (λ rest. wanted v (Answer.Done ∷ Answer.Value a ∷ rest)) (block reads_target (local ws 2)) → Reads 3 target to begins_target ws 2 refl → Flow v m (Answer.Done ∷ Answer.Value a ∷ [])
      by_read ws begun shows (inl f) = fails m _ (over_by v _ _ shows f)
      by_read ws begun shows (inr w) =
          let e = asks_by v _ _ (Effect.Read 0 w.0) (Some target) begins_target ws 3 shows w.2 in
          let there : map.get ws args ≡ Some v = begun.others args refl ∙ is in
          let b = has m w.0 in
          Flow.reads m _ w.0 e.0 e.1 (after_reads a b found (ap (has m) (target_is ws v t there w.0 w.1)) (map.insert ws target b) (set_other ws target args b refl ∙ there) (set_other ws target source b refl ∙ begun.here) (set_here ws target b)
          (λ rest. shows (Answer.Value b ∷ rest) ∙ ap (outer v) (w.2 (Answer.Value b ∷ rest))))

      by_begin : Begins 2 source reads_target vs 2 a has_a a → Flow v m (Answer.Done ∷ Answer.Value a ∷ [])
      by_begin (inl f) = fails m _ (over_by v _ _ shows f)
      by_begin (inr w) = let on : Shows v _ (block reads_target (local w.0 2)) = λ rest. shows rest ∙ ap (outer v) (w.2 rest) in by_read w.0 w.1 on (read_leads 3 target to begins_target w.0 2 refl)

  -- after its Begin
  pub flow : Flow v m (Answer.Done ∷ [])
  flow = by_read (read_leads 2 source from begins_source (first v) 1 refl)
    where
      there : map.get (first v) args ≡ Some v
      there = set_here no_variables args v

      by_read : Reads 2 source from begins_source (first v) 1 refl → Flow v m (Answer.Done ∷ [])
      by_read (inl f) = fails m _ (over_by v _ _ (opened_so v) f)
      by_read (inr w) =
          let e = asks_by v (λ rest. wanted v (Answer.Done ∷ rest)) _ (Effect.Read 0 w.0) (Some source) begins_source (first v) 2 (opened_so v) w.2 in
          let a = has m w.0 in
          Flow.reads m _ w.0 e.0 e.1 (after_read a (ap (has m) (source_is (first v) v t there w.0 w.1)) (map.insert (first v) source a) (set_other (first v) source args a refl ∙ there) (set_here (first v) source a)
          (λ rest. ap (outer v) (w.2 (Answer.Value a ∷ rest))))
