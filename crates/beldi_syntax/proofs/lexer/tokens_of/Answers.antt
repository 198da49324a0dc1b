use Rattle.std.proofs.Common.{rules}
use Rattle.beldi_syntax.proofs.Names.{arith, ends, false, length, lexemes, line_after, subst, sym, token_of, ◌+◌, ◌<◌, ◌∙◌, ◌≡◌, ◌≤◌}
use Rattle.beldi_syntax.proofs.Pieces.{piece_fits, goes_past, gets_shorter, next_line}
use Rattle.beldi_syntax.proofs.lexer.tokens_of.Goals as goal

pub split_at-requires : goal.split_at-requires
split_at-requires c = subst (λ n. n ≤ length c.pieces.rest.now) (sym c.piece_len.ensures) (piece_fits c.pieces.rest.now)

pub pieces-preserved : goal.pieces-preserved
pieces-preserved c =
    let e : ends (token_of c.split_at.result.0.now) ≡ false = sym c.in-Ok-false.ensures.ends ∙ c.in-Ok-false.field-0-test in
    let short : length c.split_at.result.1.now + c.piece_len.result ≡ length c.pieces.rest.now × (0 < c.piece_len.result) = gets_shorter c.piece_len.result c.pieces.rest.now c.split_at.result.0.now c.split_at.result.1.now c.piece_len.ensures c.split_at.ensures.front c.split_at.ensures.back e in
    let next : line_after c.pieces.rest.now c.pieces.line ≤ c.pieces.line + 1 = next_line c.pieces.rest.now c.pieces.line in
    record {
      all = goes_past c.pieces.tokens c.put.new.self c.pieces.line c.line_after-line.result c.piece_len.result c.pieces.rest.now c.split_at.result.0.now c.split_at.result.1.now (lexemes 0 1 c.args.bytes.now)
          (search rules) c.piece_len.ensures c.split_at.ensures.front c.split_at.ensures.back c.line_after-line.ensures c.in-Ok-false.ensures.put e c.pieces.invariant.all;
      few = omega (arith, c.line_after-line.ensures, c.pieces.invariant.few);
    }
