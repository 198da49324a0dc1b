-- Instances that are known go on, with an answer and what takes no turn.
use Rattle.beldi_histories.proofs.RunsStay.{GoesOn}
use Rattle.beldi_invariant.proofs.Names.{Answer, Body, Deployment, Grown, Grows, Instance, IntentId, Histories, List, Some, [], answered, ap, append-nil, append_assoc, arith, local_steps_same, goes_then, grows_at, length, length-append, advanced, local_step, once_goes, refl, sym, tx_after, ◌++◌, ◌<◌, ◌∙◌, ◌∷◌, ◌≡◌}
use Rattle.beldi_invariant.proofs.Names.map

pub moved_more : (d : Deployment) (id : IntentId) (q : Instance) (a : Answer) → GoesOn (answered q a) (advanced d id q a)
moved_more d id q a = goes_then (answered q a) (local_step d id (answered q a)) (advanced d id q a) (once_goes d id (answered q a)) (once_goes d id (local_step d id (answered q a)))

pub moved_longer : (d : Deployment) (id : IntentId) (q : Instance) (a : Answer) → length q.answers < length (advanced d id q a).answers
moved_longer d id q a =
    let g = moved_more d id q a in
    let n = ap length g.same in
    let k = length-append (q.answers ++ a ∷ []) g.more in
    let l = length-append q.answers (a ∷ []) in
    omega (arith, n, k, l)

pub grown_moved : (d : Deployment) (id : IntentId) (q : Instance) (a : Answer) → Grown q (advanced d id q a)
grown_moved d id q a =
    let h = local_steps_same d id (answered q a) in
    let g = moved_more d id q a in
    record {
      func = h.func;
      args = ap (λ (b : Body). b.args) (sym h.body);
      parent = ap (λ (b : Body). b.parent) (sym h.body);
      enclosing = h.enclosing;
      later = a ∷ g.more;
      more = sym (append_assoc q.answers (a ∷ []) g.more) ∙ g.same;
      over = λ o is. h.outcome ∙ is;
    }

pub grows_moved : (d : Deployment) (histories : Histories) (id : IntentId) (q : Instance) (a : Answer) → map.get histories id ≡ Some q → Grows histories (map.insert histories id (advanced d id q a))
grows_moved d histories id q a is = grows_at histories id q (advanced d id q a) is (grown_moved d id q a)

-- a place is in the transaction that it was in
pub tx_stays : (d : Deployment) (id : IntentId) (i j : Instance) (given : List Answer) → Grown i j → tx_after d id i given ≡ tx_after d id j given
tx_stays d id i j given w = λ k. tx_after d id (record i { func = sym w.func k; args = sym w.args k; enclosing = sym w.enclosing k }) given

pub grown_same : (i : Instance) → Grown i i
grown_same i = record { func = refl; args = refl; parent = refl; enclosing = refl; later = []; more = append-nil i.answers; over = λ o h. h }
