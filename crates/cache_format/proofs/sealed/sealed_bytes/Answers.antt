use Rattle.cache_format.proofs.Sealing.{put_sealed}
use Rattle.cache_format.proofs.sealed.sealed_bytes.Goals as goal

pub returns-clause-bytes : goal.returns-clause-bytes
returns-clause-bytes g c =
    put_sealed g.H.HashState.digest_of c.args.version (g.T.Field.spells c.args.value.now) c.new-bytes.result.items c.push.new.self.items c.put.new.out.items c.deref.result.now c.in_ok-digest.digest.items c.deref-2.result.now c.extend_from_slice.new.self.items
    c.new-bytes.ensures.items c.in_ok-push.ensures.items c.in_ok-put.ensures.added c.deref.ensures.value c.in_ok-digest.ensures c.deref-2.ensures.value c.in_ok-extend_from_slice.ensures.items
