-- The command that a `Stmt` stands for.
use Rattle.std.specs.Prelude.{ℕ, List, map}
use Rattle.beldi_tree.specs.StatementCommand.{Command, set, read, write, condwrite, call, async, lock, unlock, transaction, abort, break, choose, repeat, return, commands_of}
use Rattle.beldi_tree.specs.{declared.deployment.Stmt.Stmt, declared.deployment.Form.Form, Expr.term_of}

abbrev pub command_at : ℕ → Form → Command
command_at l (Form.Set n e) = set l n (term_of e)
command_at l (Form.Read n t k) = read l n t (term_of k)
command_at l (Form.Write t k e) = write l t (term_of k) (term_of e)
command_at l (Form.CondWrite n t k r o e) = condwrite l n t (term_of k) r (term_of o) (term_of e)
command_at l (Form.Call n f e) = call l n f (term_of e)
command_at l (Form.Async f e) = async l f (term_of e)
command_at l (Form.Lock t k) = lock l t (term_of k)
command_at l (Form.Unlock t k) = unlock l t (term_of k)
command_at l (Form.Transaction b c) = transaction l (commands_of b) (commands_of c)
command_at l Form.Abort = abort l
command_at l Form.Break = break l
command_at l (Form.If e b c) = choose l (term_of e) (commands_of b) (commands_of c)
command_at l (Form.Repeat n b) = repeat l n (commands_of b)
command_at l (Form.Return e) = return l (term_of e)

abbrev pub command_of : Stmt → Command
command_of s = command_at s.line s.form

abbrev pub statements_view : List Stmt → List Command
statements_view ss = map command_of ss
