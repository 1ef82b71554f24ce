use Rattle.std.specs.Prelude.{List, ◌++◌, take, drop, length}

-- std's list, under a name that the project's own `List` doesn't hide
abbrev pub Seq : Type 0 → Type 0
Seq A = List A

-- `xs` overwritten from its front by `ys`, and as long as before
abbrev pub with_front : {A : Type 0} → List A → List A → List A
with_front xs ys = take (length xs) (ys ++ drop (length ys) xs)
