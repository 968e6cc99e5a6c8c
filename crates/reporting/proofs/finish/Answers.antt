-- `reporting::finish` meets its contract. The report is one line, or as many lines of places are shown as there is room
-- for. Assumes nothing.
use mathlib.Core.Path.{refl, sym, ◌∙◌}
use native.Mathlib.Omega.{arith}
use Rattle.reporting.proofs.Closing.{close_alone, close_small, close_places, done_close}
use Rattle.reporting.proofs.finish.Goals as goal

pub returns-then-is_alone : goal.returns-then-is_alone
returns-then-is_alone c =
    let can = c.in_ok-early.ensures.known refl c.if-s.false in
    done_close _ _ _ _ _ _ (sym c.in_ok-early.ensures.code)
    (close_alone _ _ _ _ can c.end-end.ensures.sized _ c.end-end.ensures.ends _ c.has_stopped-full.ensures
    (sym c.is_alone.ensures ∙ c.if-is_alone.true) _ _
    c.put_end.ensures.0 (omega (arith, c.put_end.ensures.1, c.if-out-lt-REPORT_ROOM.false)))

pub show_places-requires-clause-accounts_small : goal.show_places-requires-clause-accounts_small
show_places-requires-clause-accounts_small c =
    close_small _ _ _ c.args.out.now (c.in_ok-early.ensures.known refl c.if-s.false)
    c.end-end.ensures.sized _ c.end-end.ensures.ends _ c.has_stopped-full.ensures
    (sym c.is_alone.ensures ∙ c.if-is_alone.false)

pub returns : goal.returns
returns c =
    done_close _ _ _ _ _ _ (sym c.in_ok-early.ensures.code)
    (close_places _ _ _ _ (c.in_ok-early.ensures.known refl c.if-s.false) c.end-end.ensures.sized _ c.end-end.ensures.ends _ c.has_stopped-full.ensures
    (sym c.is_alone.ensures ∙ c.if-is_alone.false) _ _ c.show_places.ensures)
