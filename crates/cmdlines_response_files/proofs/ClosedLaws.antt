-- Files that aren't open.
use Rattle.std.proofs.Common.{◌≡◌, ◌<◌, ◌≤◌, Bool, true, false, ◌||◌, cond, [], ◌∷◌, Option, None, Some, length, refl, ap, ◌∙◌, arith}
use Rattle.std.specs.Option.{option_and_then}
use Rattle.std.specs.Str.{bytes_eq}
use Rattle.std.proofs.lemmas.Slice.Eq.{bytes_eq-Decides}
use Rattle.base_files.specs.Bytes.{Bytes}
use Rattle.base_files.specs.Tree.{Node, Tree, contents_at, node_at}
use Rattle.cmdlines_response_files.specs.Closed.{closed_in, without}

-- the same names are open
pub closed_same : (held other : Bytes → Bool) → ((name : Bytes) → held name ≡ other name) → (tree : Tree) → closed_in held tree ≡ closed_in other tree
closed_same held other same [] = refl
closed_same held other same (pair ∷ tree) = rw (same pair.0, closed_same held other same tree) refl

-- nothing is open
pub closed_all : (held : Bytes → Bool) → ((name : Bytes) → held name ≡ false) → (tree : Tree) → closed_in held tree ≡ tree
closed_all held none [] = refl
closed_all held none (pair ∷ tree) = rw (none pair.0, closed_all held none tree) refl

-- one more name is open
pub closed_more : (held : Bytes → Bool) (name : Bytes) (tree : Tree) → closed_in (λ other. bytes_eq name other || held other) tree ≡ without name (closed_in held tree)
closed_more held name [] = refl
closed_more held name (pair ∷ tree) = by (closed_more held name tree) (bytes_eq name pair.0) (held pair.0) refl refl
  where
    by : closed_in (λ other. bytes_eq name other || held other) tree ≡ without name (closed_in held tree) → (a b : Bool) → bytes_eq name pair.0 ≡ a → held pair.0 ≡ b → closed_in (λ other. bytes_eq name other || held other) (pair ∷ tree) ≡ without name (closed_in held (pair ∷ tree))
    by rest true true p q = rw (p, q) rest
    by rest true false p q = rw (p, q) (rw p rest)
    by rest false true p q = rw (p, q) rest
    by rest false false p q = rw (p, q) (rw (p, rest) refl)

same_true : (x y : Bytes) → bytes_eq x y ≡ true → x ≡ y
same_true x y h = (bytes_eq-Decides x y).0 h

-- an open name has nothing, and any other what it had
pub node_at_closed : (held : Bytes → Bool) (name : Bytes) (tree : Tree) → node_at (closed_in held tree) name ≡ cond (held name) None (node_at tree name)
node_at_closed held name [] = by (held name)
  where
    by : (b : Bool) → None ≡ cond {A = Option Node} b None None
    by true = refl
    by false = refl
node_at_closed held name (pair ∷ tree) = by (node_at_closed held name tree) (held pair.0) (bytes_eq name pair.0) refl refl
  where
    by : node_at (closed_in held tree) name ≡ cond (held name) None (node_at tree name) → (a b : Bool) → held pair.0 ≡ a → bytes_eq name pair.0 ≡ b → node_at (closed_in held (pair ∷ tree)) name ≡ cond (held name) None (node_at (pair ∷ tree) name)
    by rest true true p q = let opened : held name ≡ true = ap held (same_true name pair.0 q) ∙ p in rw (p, opened) (rest ∙ rw opened refl)
    by rest true false p q = rw (p, q) rest
    by rest false true p q = let closed : held name ≡ false = ap held (same_true name pair.0 q) ∙ p in rw (p, q, closed) refl
    by rest false false p q = rw (p, q) rest

pub contents_at_closed : (held : Bytes → Bool) (name : Bytes) (tree : Tree) → contents_at (closed_in held tree) name ≡ cond (held name) None (contents_at tree name)
contents_at_closed held name tree = ap (option_and_then (λ (node : Node). node.contents)) (node_at_closed held name tree) ∙ by (held name)
  where
    by : (b : Bool) → option_and_then (λ (node : Node). node.contents) (cond b None (node_at tree name)) ≡ cond b None (contents_at tree name)
    by true = refl
    by false = refl

closed_le : (held : Bytes → Bool) (tree : Tree) → length (closed_in held tree) ≤ length tree
closed_le held [] = omega arith
closed_le held (pair ∷ tree) = by (closed_le held tree) (held pair.0) refl
  where
    by : length (closed_in held tree) ≤ length tree → (b : Bool) → held pair.0 ≡ b → length (closed_in held (pair ∷ tree)) ≤ length (pair ∷ tree)
    by rest true p = rw p (omega (arith, rest))
    by rest false p = rw p (omega (arith, rest))

-- a name that is there makes the files fewer once it is open
pub without_lt : (name : Bytes) (node : Node) (tree : Tree) → node_at tree name ≡ Some node → length (without name tree) < length tree
without_lt name node [] h = cc
without_lt name node (pair ∷ tree) h = by (λ later. without_lt name node tree later) (bytes_eq name pair.0) refl
  where
    by : (node_at tree name ≡ Some node → length (without name tree) < length tree) → (b : Bool) → bytes_eq name pair.0 ≡ b → length (without name (pair ∷ tree)) < length (pair ∷ tree)
    by rest true p = rw p (omega (arith, closed_le (bytes_eq name) tree))
    by rest false p = let later : node_at tree name ≡ Some node = rw p at h in rw p (omega (arith, rest later))
