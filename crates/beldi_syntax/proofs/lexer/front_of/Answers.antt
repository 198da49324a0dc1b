use Rattle.std.proofs.Common.{rules}
use Rattle.beldi_syntax.proofs.Names.{Bool, ap, arith, false, is_bad, is_script, length, subst, sym, to_script, token_of, ◌+◌, ◌<◌, ◌∙◌, ◌≡◌, ◌≤◌}
use Rattle.beldi_syntax.proofs.Pieces.{piece_fits, neither, gets_shorter, script_past}
use Rattle.beldi_syntax.proofs.lexer.front_of.Goals as goal

pub split_at-requires : goal.split_at-requires
split_at-requires c = subst (λ n. n ≤ length c.pieces.rest.now) (sym c.piece_len.ensures) (piece_fits c.pieces.rest.now)

pub pieces-preserved : goal.pieces-preserved
pieces-preserved c =
    let bad : is_bad (token_of c.split_at.result.0.now) ≡ false = sym (ap (λ (m : Bool × Bool). m.0) c.in-Ok.ensures) ∙ c.if-bad.false in
    let script : is_script (token_of c.split_at.result.0.now) ≡ false = sym (ap (λ (m : Bool × Bool). m.1) c.in-Ok.ensures) ∙ c.if-script.false in
    let past : to_script 0 c.pieces.rest.now ≡ to_script 0 c.split_at.result.1.now + c.piece_len.result = script_past c.piece_len.result c.pieces.rest.now c.split_at.result.0.now c.split_at.result.1.now false false (search rules) c.piece_len.ensures c.split_at.ensures.front c.split_at.ensures.back bad script in
    let short : length c.split_at.result.1.now + c.piece_len.result ≡ length c.pieces.rest.now × (0 < c.piece_len.result) = gets_shorter c.piece_len.result c.pieces.rest.now c.split_at.result.0.now c.split_at.result.1.now c.piece_len.ensures c.split_at.ensures.front c.split_at.ensures.back (neither (token_of c.split_at.result.0.now) bad script) in
    record {
      all = omega (arith, c.pieces.invariant.all, c.pieces.invariant.within);
      within = omega (arith, c.pieces.invariant.within);
    }
