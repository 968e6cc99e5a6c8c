-- `c_face::box_listing` meets its contract. What is written up to a piece, and what is left, is the listing; the rest
-- of the log gets shorter. Assumes nothing.
use borrow.Author.Rules.{rules}
use native.Mathlib.Omega.{arith}
use mathlib.Core.Path.{refl, sym, ◌∙◌}
use lib.ListN.{replicate}
use lib.Seq.{length-take-le}
use Rattle.player.proofs.Ends.{before_first_ready}
use Rattle.c_face.proofs.Whole.{nothing_yet, no_room, too_long, piece_room, one_more, all_written, must_move}
use Rattle.c_face.proofs.box_listing.Goals as goal

pub returns-then-piece-lt-LINE_ROOM : goal.returns-then-piece-lt-LINE_ROOM
returns-then-piece-lt-LINE_ROOM c = no_room _ _ _ c.if-piece-lt-LINE_ROOM.true

pub pieces-init : goal.pieces-init
pieces-init c =
    rw c.begin-state.ensures
    (record {
      ids_all = search rules;
      lens_all = search rules;
      roomy = c.if-piece-lt-LINE_ROOM.false;
      as_long = refl;
      code = before_first_ready (replicate 2048 0) (replicate 2048 0) (search rules) (search rules);
      within = omega arith;
      so_far = nothing_yet _ _ _ _;
    })

pub slice_bounds-next_piece-end : goal.slice_bounds-next_piece-end
slice_bounds-next_piece-end c =
    sym c.pieces.invariant.ids_all

pub slice_bounds-next_piece-end-in-pieces : goal.slice_bounds-next_piece-end-in-pieces
slice_bounds-next_piece-end-in-pieces c =
    sym c.pieces.invariant.lens_all

pub next_piece-fed-requires : goal.next_piece-fed-requires
next_piece-fed-requires c =
    (c.pieces.invariant.within, (c.pieces.invariant.roomy, c.pieces.invariant.code))

pub overflow_sub-out : goal.overflow_sub-out
overflow_sub-out c =
    omega (arith, c.pieces.invariant.so_far.fits, c.pieces.invariant.so_far.same)

pub shape_of-piece-then-out-end : goal.shape_of-piece-then-out-end
shape_of-piece-then-out-end c =
    c.next_piece-fed.auto.piece ∙ c.pieces.invariant.as_long

pub shape_of-out-then-out-end : goal.shape_of-out-then-out-end
shape_of-out-then-out-end c =
    c.pieces.invariant.so_far.same

pub returns-then-out-end : goal.returns-then-out-end
returns-then-out-end c =
    too_long _ _ _ _ _ _ _ _ c.pieces.invariant.so_far _ _ _ _ _ c.next_piece-fed.ensures c.next_piece-fed.auto.piece
    c.if-out-end.true _

pub slice_bounds-put_text-end : goal.slice_bounds-put_text-end
slice_bounds-put_text-end c =
    omega (arith, c.next_piece-fed.ensures.fits, c.next_piece-fed.auto.piece)

pub slice_bounds-put_text-end-in-pieces : goal.slice_bounds-put_text-end-in-pieces
slice_bounds-put_text-end-in-pieces c =
    sym (length-take-le _ _ (omega (arith, c.next_piece-fed.ensures.fits, c.next_piece-fed.auto.piece)))

pub put_text-end-requires : goal.put_text-end-requires
put_text-end-requires c =
    piece_room _ _ _ _ _ _ _ _ c.pieces.invariant.so_far _ _ _ _ _ c.next_piece-fed.ensures c.next_piece-fed.auto.piece
    c.if-out-end.false

pub shape_of-piece-then-state : goal.shape_of-piece-then-state
shape_of-piece-then-state c =
    c.next_piece-fed.auto.piece ∙ c.pieces.invariant.as_long

pub shape_of-out-then-state : goal.shape_of-out-then-state
shape_of-out-then-state c =
    c.put_text-end.auto.out ∙ c.pieces.invariant.so_far.same

pub returns-then-state : goal.returns-then-state
returns-then-state c =
    all_written _ _ _ _ _ _ _ _ c.pieces.invariant.so_far _ _ _ _ _ c.next_piece-fed.ensures c.next_piece-fed.auto.piece
    c.if-out-end.false _ _ c.put_text-end.ensures c.put_text-end.auto.out c.if-state.true _

pub overflow_add-taken : goal.overflow_add-taken
overflow_add-taken c =
    omega (arith, c.well_formed.0, (must_move _ _ _ _ _ _ _ _ _ _ c.pieces.invariant.within c.next_piece-fed.ensures c.if-state.false).1)

pub pieces-smaller : goal.pieces-smaller
pieces-smaller c =
    (must_move _ _ _ _ _ _ _ _ _ _ c.pieces.invariant.within c.next_piece-fed.ensures c.if-state.false).0

pub pieces-preserved : goal.pieces-preserved
pieces-preserved c =
    record {
      ids_all = c.next_piece-fed.auto.ids ∙ c.pieces.invariant.ids_all;
      lens_all = c.next_piece-fed.auto.lens ∙ c.pieces.invariant.lens_all;
      roomy = omega (arith, c.next_piece-fed.auto.piece, c.pieces.invariant.roomy);
      as_long = c.next_piece-fed.auto.piece ∙ c.pieces.invariant.as_long;
      code = c.next_piece-fed.ensures.goes_on;
      within = (must_move _ _ _ _ _ _ _ _ _ _ c.pieces.invariant.within c.next_piece-fed.ensures c.if-state.false).1;
      so_far =
          one_more _ _ _ _ _ _ _ _ c.pieces.invariant.so_far _ _ _ _ _ c.next_piece-fed.ensures c.next_piece-fed.auto.piece
          c.if-out-end.false _ _ c.put_text-end.ensures c.put_text-end.auto.out;
    }
