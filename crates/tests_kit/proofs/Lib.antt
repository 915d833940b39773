mod AloneHeld
