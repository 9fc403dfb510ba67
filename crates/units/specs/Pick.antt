-- A choice by a test: the first where it holds, else the second.
use Rattle.std.specs.Prelude.{Bool, true, false}

unfoldable pub pick {ℓ} : {A : Type ℓ} → Bool → A → A → A
pick true x y = x
pick false x y = y
