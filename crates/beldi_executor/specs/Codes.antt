-- Plain states as data.
use Rattle.std.specs.Prelude.{ℕ, List, Option, refl}
use Rattle.std.specs.{Coded.Coded, Coded.code_by, Coded.coded×, Coded.coded_ℕ, Coded.coded_list, Coded.coded_option, FinMap.FinMap}
use Rattle.std.specs.FinMap as map
use Rattle.beldi_value.specs.{Id.id_cmp, Id.coded_id, Injective.coded_value, declared.place.Caller.Caller, declared.place.TxId.TxId, declared.value.Value.Value, declared.outcome.Outcome.Outcome}
use Rattle.beldi_value.specs.contracts.outcome.Outcome as outcome
use Rattle.beldi_value.specs.contracts.place.Caller as caller
use Rattle.beldi_value.specs.contracts.place.TxId as transaction
use Rattle.beldi_tree.specs.declared.deployment.Deployment.{Deployment}
use Rattle.beldi_tree.specs.contracts.deployment.Deployment as deployment
use Rattle.beldi_lang.specs.declared.effect.Answer.{Answer}
use Rattle.beldi_lang.specs.contracts.effect.Answer as answer
use Rattle.beldi_plain.specs.{Item.item_cmp, Item.coded_item, Plain.Instance, Plain.PlainState}
use Rattle.beldi_executor.specs.Executor.{Executor}

abbrev pub coded_instance : Coded Instance
coded_instance = code_by (ℕ × (Value × (Option Caller × (Option TxId × (List Answer × Option Outcome)))))
    (coded× coded_ℕ (coded× coded_value (coded× (coded_option caller.the_row.coded) (coded× (coded_option transaction.the_row.coded) (coded× (coded_list answer.the_row.coded) (coded_option outcome.the_row.coded))))))
    (λ q. (q.func, (q.args, (q.parent, (q.enclosing, (q.answers, q.outcome))))))
    (λ p. record { func = p.0; args = p.1.0; parent = p.1.1.0; enclosing = p.1.1.1.0; answers = p.1.1.1.1.0; outcome = p.1.1.1.1.1 }) (λ _. refl)

abbrev pub coded_state : Coded PlainState
coded_state = code_by (FinMap item_cmp Value × FinMap id_cmp Instance) (coded× (map.code coded_item coded_value) (map.code coded_id coded_instance))
    (λ p. (p.items, p.made)) (λ p. record { items = p.0; made = p.1 }) (λ _. refl)

abbrev pub coded_executor : Coded Executor
coded_executor = code_by (Deployment × PlainState) (coded× deployment.the_row.coded coded_state)
    (λ e. (e.code, e.state)) (λ p. record { code = p.0; state = p.1 }) (λ _. refl)
