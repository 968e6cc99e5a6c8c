-- What the arrays that are written for a board have at a place.
use mathlib.Core.Path.{◌≡◌}
use Prim.Native.Nat.{ℕ}
use lib.ListN.{length, get_or, get_or-map}
use Rattle.rules.specs.Board
use Rattle.rules.specs.Board.{Place, free_place, at}
use Rattle.board.specs.Reading.{encode}

module _ (m : Board.Board) (i : ℕ) where
  pub number_is : get_or (encode m).numbers i 0 ≡ (at m i).number
  unfolding encode
  number_is = get_or-map (λ (y : Place). y.number) m.places i free_place

  pub share_is : get_or (encode m).shares i 0 ≡ (at m i).share
  unfolding encode
  share_is = get_or-map (λ (y : Place). y.share) m.places i free_place

  pub start_is : get_or (encode m).starts i 0 ≡ (at m i).start
  unfolding encode
  start_is = get_or-map (λ (y : Place). y.start) m.places i free_place

  pub count_is : get_or (encode m).counts i 0 ≡ length (at m i).lane
  unfolding encode
  count_is = get_or-map (λ (y : Place). length y.lane) m.places i free_place

  pub deficit_is : get_or (encode m).deficits i 0 ≡ (at m i).deficit
  unfolding encode
  deficit_is = get_or-map (λ (y : Place). y.deficit) m.places i free_place
