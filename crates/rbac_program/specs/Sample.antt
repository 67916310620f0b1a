-- The world that is played where no founding is named.
use Rattle.std.specs.Prelude.{◌≡◌, codes}
use Rattle.rbac_words.specs.Right.{founding_world}
use Rattle.rbac_words.specs.World.{World}
use Rattle.rbac_founding.specs.Sample.{sample_group, sample_vocabulary}
use Rattle.rbac_program.specs.declared.words.Asked.{Asked}
use Rattle.rbac_program.specs.declared.words.Asked.TheVariants.{Play}

abbrev pub sample_world : World
sample_world = founding_world sample_group sample_vocabulary

-- what is asked for is that standard input is played on the sample
abbrev pub PlaysSample : Asked → Type 0
PlaysSample (Play asked) = (asked.founding.now ≡ codes "-") × (asked.schedule.now ≡ codes "-")
PlaysSample other = ⊥
