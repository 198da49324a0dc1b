-- That the end of a transaction is over only once all who took part have their finish.
use Rattle.beldi_txn.specs.End.{call_goes, calls_goes, counts, decide_goes, freed_goes, value_goes}
use Rattle.beldi_txn.specs.Visited.{IsMember}
use Rattle.beldi_invariant.proofs.Names.{Body, Bool, CalleeBodyMatches, Core, Deployment, EndAt, EndGoes, Instance, IntentId, IntentMatches, IntentRow, Member, None, Option, ReadGoes, Invariant, Row, Rows, Some, QueryReply, TookPart, TxId, WriteGoes, ap, arith, end_goes, false, first_end, has_callees, has_ended, has_no_hops, if◌then◌else◌, intent_key, is_closed, key_in, refl, row_closed, same_some, subst, sym, true, tx_end, visited_by, ℕ, ◌∙◌, ◌∷◌, ◌≡◌, List, Called}
use Rattle.beldi_invariant.proofs.Names.map
use Rattle.beldi_invariant.proofs.{Members.part_below, Members.part_key, Members.reached}
use Rattle.beldi_upkeep.specs.Callees.{AllFinished, HasBody}
use Rattle.beldi_upkeep.proofs.FromInvariant.{body_recorded, row_at}

decide_goes_on : (commit : Bool) (s : QueryReply) → decide_goes commit s ≡ EndGoes.Done → ⊥
decide_goes_on commit s is = grind arith

call_goes_on : (b : Bool) (cs : List Called) (c : Called) → call_goes b cs c ≡ EndGoes.Done → ⊥
call_goes_on true cs c is = cc
call_goes_on false cs c is = cc

calls_go_on : (end : ℕ) (p : Member) (cs : List Called) (c : Option Called) → calls_goes end p cs c ≡ EndGoes.Done → ⊥
calls_go_on end p cs None is = cc
calls_go_on end p cs (Some c) is = by_test (counts end cs c) is
  where
    by_test : (b : Bool) → (if b then call_goes (has_callees p.0) cs c else EndGoes.On EndAt.Next) ≡ EndGoes.Done → ⊥
    by_test true e = call_goes_on (has_callees p.0) cs c e
    by_test false e = cc

value_goes_on : (r : ReadGoes) → value_goes r ≡ EndGoes.Done → ⊥
value_goes_on r is = grind arith

free_goes_on : (r : WriteGoes) → freed_goes r ≡ EndGoes.Done → ⊥
free_goes_on r is = grind arith

-- the walk is done only where it looks for the next lock
pub done_next : (t : TxId) (end : ℕ) (commit : Bool) (cs : List Called) (a : EndAt) (s : QueryReply) → end_goes t end commit cs a s ≡ EndGoes.Done → a ≡ EndAt.Next
done_next t end commit cs EndAt.Next s is = refl
done_next t end commit cs EndAt.Decide s is = absurd (decide_goes_on commit s is)
done_next t end commit cs EndAt.Callees s is = absurd (calls_go_on end (visited_by t cs) cs _ is)
done_next t end commit cs (EndAt.Shadow r) s is = absurd (value_goes_on _ is)
done_next t end commit cs (EndAt.Free w) s is = absurd (free_goes_on _ is)
done_next t end commit cs EndAt.Stamp s is = cc

module _ (d : Deployment) (c : Core) (m : Rows) (h : Invariant d c m) where
  -- the row of a callee is in the home of its function
  pub body_home : (home : ℕ) (i : IntentId) (r : IntentRow) (b : Body) → HasBody m home i r b → has_no_hops i.hops ≡ false → b.func ≡ home
  body_home home i r b body below = by_body r.body (subst (λ t. IntentMatches (has_ended d h.histories) t home (Some (Row.Intent r)) (map.get h.histories i)) below (row_at d c m h home i (Some (Row.Intent r)) body.there)).body body.body
    where
      by_body : (x : Option Body) → CalleeBodyMatches home x r.outcome (map.get h.histories i) → x ≡ Some b → b.func ≡ home
      by_body None f is = cc
      by_body (Some x) f is = ap (λ (y : Body). y.func) (sym (same_some is)) ∙ f.1

  pub all_finished : (t : TxId) (z : ℕ × Bool) → tx_end d h.histories t ≡ Some z → ((e : Called) (es : List Called) → IsMember (first_end t z.0 z.1) m (e ∷ es) → is_closed m (visited_by t (e ∷ es)) ≡ true) → AllFinished m t
  all_finished t z ended closed home i r b body in_it =
      let k = body_recorded d c m h home i r b body in
      let y : Instance = k.instance in
      let within = ap (λ (x : Body). x.tx) (sym k.body) ∙ in_it in
      let part : TookPart h.histories t i = record { instance = y; made = k.made; enclosing = within } in
      let u = reached d m h.histories h.lock_ahead h.rows h.well_formed t z ended h.short i y k.made within in
      let func : y.func ≡ home = ap (λ (x : Body). x.func) (sym k.body) ∙ body_home home i r b body (part_below d h.histories h.well_formed t i part) in
      let key : intent_key i y.func ≡ key_in home i = part_key d h.histories h.well_formed t i y.func part ∙ ap (λ f. key_in f i) func in
      ap row_closed (sym (ap (map.get m) key ∙ body.there)) ∙ subst (λ p. is_closed m p ≡ true) u.leads (closed u.first u.rest u.member)
