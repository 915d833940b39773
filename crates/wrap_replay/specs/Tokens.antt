-- Files of which a session has tokens in the place of contents.
use Rattle.std.specs.Prelude.{map}
use Rattle.std.specs.Option.{option_map}
use Rattle.base_files.specs.Bytes.{Bytes}
use Rattle.base_files.specs.Tree.{Node, Tree}
use Rattle.ckeys_records.specs.Meaning.{Meaning, Scene, scene_with}

-- a file with the contents that those that a session has represent
abbrev pub decoded_node : (Bytes → Bytes) → Node → Node
decoded_node decode node = record { contents = option_map decode node.contents; canonical = node.canonical; metadata = node.metadata }

-- the files as they are
abbrev pub decoded_tree : (Bytes → Bytes) → Tree → Tree
decoded_tree decode tree = map (λ entry. (entry.0, decoded_node decode entry.1)) tree

-- where and when a step runs, on the files as they are
abbrev pub decoded_scene : (Bytes → Bytes) → Scene → Scene
decoded_scene decode scene = scene_with scene.executable scene.dir scene.env (decoded_tree decode scene.files) scene.moment

-- a world that reads of each file what its contents represent, and gives what another one gives for that
abbrev pub decoding : (Bytes → Bytes) → Meaning → Meaning
decoding decode world step asked names scene = world step asked names (decoded_scene decode scene)
