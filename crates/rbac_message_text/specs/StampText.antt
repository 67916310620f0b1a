-- The text of a stamp.
use Rattle.std.specs.Prelude.{ℕ, ◌==◌, if◌then◌else◌, List, ◌++◌, codes, decimal}
use Rattle.rbac_words.specs.declared.stamp.Stamp.{Stamp}

-- [1,1]: the clock and the member; [1,1,2] where there is a place other than 0, which the stamp of a message has not
abbrev pub stamp_text : Stamp → List ℕ
stamp_text stamp =
    if stamp.place == 0 then codes "[" ++ decimal stamp.clock ++ codes "," ++ decimal stamp.member ++ codes "]"
    else codes "[" ++ decimal stamp.clock ++ codes "," ++ decimal stamp.member ++ codes "," ++ decimal stamp.place ++ codes "]"
