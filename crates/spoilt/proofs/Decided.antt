-- THE LAW OF THE TEST: with tables of 2,048 entries it is passed exactly by the values that are not spoilt.
use lib.Dec.{eqb}
use lib.ListN.{length}
use Rattle.base.proofs.Numbers.{eqb_yes}
use Rattle.base.proofs.Tests.{and_both}
use Rattle.base.proofs.Decides.{d_iff}
use Rattle.spoilt.specs.Test.{SoundDecides}
use Rattle.spoilt.proofs.Rules.{d_rules}
use Rattle.spoilt.proofs.Spelling.{spells_is}
use Rattle.spoilt.proofs.Clauses.{keeps_is}
use Rattle.spoilt.proofs.Passing.{rules_of}

pub sound_decides : SoundDecides
sound_decides b ids lens z i l = d_iff (d_rules b ids lens)
    (λ w. record { spells = spells_is b ids lens w.1 z; keeps = keeps_is b ids lens z w.1 })
    (λ s. (and_both (eqb (length ids) 2048) (eqb (length lens) 2048) (eqb_yes (length ids) 2048 i) (eqb_yes (length lens) 2048 l), rules_of b ids lens z s))
