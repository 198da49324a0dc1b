-- What it is to keep every rule, said of each function, table and statement.
use Rattle.std.specs.Prelude.{◌≡◌, ◌↔◌, ◌<◌, ◌≤◌, ℕ, false, List, length, slice_get, Some, None}
use Rattle.beldi_tree.specs.{declared.deployment.Deployment.Deployment, declared.deployment.Func.Func, declared.deployment.TableHead.TableHead, Bindings.is_name}
use Rattle.beldi_check.specs.{Site.Spot, Site.sites_of, CallGraph.reaches, CallGraph.blocks, declared.calls.Link.TheVariants.Call, declared.calls.Link.TheVariants.Start, declared.rules.Rule.Rule, Rules.named, Rules.IsChecked}

pub record KeepsRules (fs : List Func) : Type 0 where
  -- no two functions have one name, nor two tables of a function
  pub names : (i j : ℕ) (f g : Func) → i < j → slice_get fs i ≡ Some f → slice_get fs j ≡ Some g → is_name f.name g.name ≡ false
  pub tables : (n i j : ℕ) (f : Func) (s t : TableHead) → slice_get fs n ≡ Some f → i < j → slice_get f.tables i ≡ Some s → slice_get f.tables j ≡ Some t → is_name s.name t.name ≡ false
  -- there are at most 64 of each
  pub few : length fs ≤ 64
  pub few_tables : (n : ℕ) (f : Func) → slice_get fs n ≡ Some f → length f.tables ≤ 64
  -- no statement breaks a rule
  pub statements : (r : Rule) (n k : ℕ) (f : Func) (s : Spot) → slice_get fs n ≡ Some f → slice_get (sites_of f.body) k ≡ Some s → named r fs f (reaches Call fs (blocks fs) n) s ≡ None
  -- no function reaches itself
  pub acyclic : (n : ℕ) → n < length fs → reaches Start fs n n ≡ false

-- what is accepted keeps every rule, and what keeps every rule is accepted
abbrev pub AcceptsExactly : Type 0
AcceptsExactly = (d : Deployment) → IsChecked d ↔ KeepsRules d.funcs
