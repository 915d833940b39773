-- The digests of files, as text.
use Rattle.std.specs.Prelude.{List, [], ◌∷◌, Option, Some, option_and_then}
use Rattle.std.specs.Option.{option_map}
use Rattle.base_files.specs.Bytes.{Bytes}
use Rattle.base_files.specs.Tree.{Tree, contents_at}
use Rattle.ckeys_base.specs.Hex.{hex_of}

-- the digest of the contents of the regular file of that name
abbrev pub file_digest : (Bytes → Bytes) → Tree → Bytes → Option Bytes
file_digest digest_of tree name = option_map (λ contents. hex_of (digest_of contents)) (contents_at tree name)

-- the digests of the regular files of these names, in order, where each is there
abbrev pub file_digests : (Bytes → Bytes) → Tree → List Bytes → Option (List Bytes)
file_digests digest_of tree [] = Some []
file_digests digest_of tree (name ∷ names) =
    option_and_then (λ digest. option_map (λ others. digest ∷ others) (file_digests digest_of tree names)) (file_digest digest_of tree name)
