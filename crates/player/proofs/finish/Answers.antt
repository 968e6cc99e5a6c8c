-- `player::finish` meets its contract. Unless the listing is over, its last line is written. Assumes nothing.
use mathlib.Core.Path.{refl, sym}
use native.Mathlib.Omega.{arith}
use Rattle.player.proofs.Ends.{done_close, close_last}
use Rattle.player.proofs.finish.Goals as goal

pub returns : goal.returns
returns c =
    let goes = c.in_ok-unready.ensures.known refl c.if-s.false in
    let shown = c.show_end-used.ensures in
    done_close _ _ _ _ _ _ (sym c.in_ok-unready.ensures.code)
    (close_last _ _ _ _ goes _ c.waiting.ensures _ _ _ c.end.ensures.ends shown.0 (omega arith))
