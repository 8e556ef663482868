-- What is left of a walk along a line. Assumes nothing.
use Rattle.std.specs.Prelude.{Bool, List, [], ◌∷◌, Some, None, Option}
use Rattle.std.specs.List.{filter}

-- before the first entry all, and after an entry those that it is ahead of
abbrev pub left_after : {X : Type 0} → (X → X → Bool) → Option X → List X → List X
left_after ahead None xs = xs
left_after ahead (Some x) xs = filter (ahead x) xs

-- an entry, if there is one, and those that it is ahead of
abbrev pub with_behind : {X : Type 0} → (X → X → Bool) → Option X → List X → List X
with_behind ahead None xs = []
with_behind ahead (Some x) xs = x ∷ filter (ahead x) xs
