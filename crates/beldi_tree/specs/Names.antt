-- What names mean in a deployment.
use Rattle.std.specs.Prelude.{ℕ, zero, suc, List, Option, Some, None, slice_get, decimal}
use Rattle.std.specs.List.{position}
use Rattle.beldi_tree.specs.{declared.deployment.Deployment.Deployment, declared.deployment.Func.Func, declared.deployment.TableHead.TableHead, Bindings.is_name}

-- where the first function of this name stands, from 0
abbrev pub func_place : List Func → List ℕ → Option ℕ
func_place fs n = position (λ f. is_name f.name n) fs

-- where the first table of this name stands, from 0
abbrev pub table_place : List TableHead → List ℕ → Option ℕ
table_place ts n = position (λ t. is_name t.name n) ts

-- the function of this number, from 1
abbrev pub func_at : Deployment → ℕ → Option Func
func_at d zero = None
func_at d (suc n) = slice_get d.funcs n

abbrev pub name_or : ℕ → Option Func → List ℕ
name_or n None = decimal n
name_or n (Some f) = f.name

-- a function by its name, or by its number where the deployment lacks it
abbrev pub func_text : Deployment → ℕ → List ℕ
func_text code n = name_or n (func_at code n)
