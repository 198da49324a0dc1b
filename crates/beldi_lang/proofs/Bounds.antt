-- By induction on the body: inside a transaction, another one is its first block.
use Rattle.beldi_lang.proofs.Names.{Answer, Bool, Command, Commands, Effect, HeldLock, InheritedWantNoBound, List, Outcome, [], abort, async, body_of, break, call, choose, command, condwrite, false, func_at, is_bound, lock, no_commands, read, refl, releases, repeat, return, set, transaction, true, unlock, write, ◌∷◌, ◌≡◌}
use Rattle.beldi_lang.proofs.Occurs.{Each, EachOf, wants_only}

abbrev NoBound : Bool → Effect → Type 0
NoBound i e = is_bound e ≡ false

-- nothing is asked of the locks that are held
abbrev AnyHeld : List HeldLock → Type 0
AnyHeld hs = Unit {0}

released : (o : Outcome) (hs : List HeldLock) (rest : List Answer) → is_bound (releases o hs rest) ≡ false
released o [] rest = refl
released o (l ∷ ls) [] = refl
released o (l ∷ ls) (a ∷ rest) = released o ls rest

mutual
  each : (c : Command) → Each AnyHeld NoBound true c
  each (set l n e) = tt
  each (read l n t k) = λ t' k'. refl
  each (write l t k e) = λ t' k' v. refl
  each (condwrite l n t k r o e) = λ t' k' w v. refl
  each (call l n f e) = λ f' v. refl
  each (async l f e) = λ f' v. refl
  each (lock l t k) = λ t' k'. (refl, λ hs h. tt)
  each (unlock l t k) = λ t' k'. (refl, λ hs h. tt)
  each (transaction l b c) = all b
  each (abort l) = refl
  each (break l) = tt
  each (choose l e b c) = (all b, all c)
  each (repeat l n b) = all b
  each (return l e) = tt

  all : (b : Commands) → EachOf AnyHeld NoBound true b
  all no_commands = tt
  all (command c cs) = (each c, all cs)

pub no_bound : InheritedWantNoBound
no_bound d func args answers = wants_only AnyHeld NoBound d func args true answers tt (λ o hs rest held. released o hs rest) (all (body_of (func_at d func)))
